-- The tests tell equality.
use Rattle.std.proofs.Common.{◌≡◌, ℕ, zero, suc, Bool, true, false, ◌&&◌, ◌==◌, Some, None, refl, sym, ◌∙◌, ap}
use Rattle.std.specs.Prelude.{unwrap_or}
use Rattle.std.specs.Ordering.{int_eq}
use Rattle.std.specs.Str.{bytes_eq}
use Rattle.std.specs.Bool.{Decides}
use Rattle.std.specs.Cmp.Lexicographic.{pointwise}
use Rattle.std.proofs.lemmas.Bool.Decides.{Decides-and, Decides-like, Decides-eqb, Decides-int_eq}
use Rattle.std.proofs.lemmas.Slice.Eq.{bytes_eq-Decides, slice_eq-Decides}
use Rattle.cells.proofs.SetLaws.{cells_eq_tells}
use Rattle.names.specs.declared.kinds.Mode.{Mode}
use Rattle.names.specs.declared.kinds.Mode.TheVariants.{Off, Day, Night}
use Rattle.names.specs.declared.kinds.Layer.{Layer}
use Rattle.names.specs.declared.kinds.Layer.TheVariants.{Token, Hidden, Object, Background}
use Rattle.names.specs.TokenId.{id_eq}
use Rattle.names.proofs.SameIds.{id_eq-Decides}
use Rattle.std.specs.Option.{option_eq}
use Rattle.views.specs.Same.{same_bool, mode_number, same_mode, layer_number, same_layer, same_extent, same_cell, same_letter, same_light, same_bytes, same_props, same_map, same_owned, same_whole, same_token, same_entry, same_fight, same_view}

-- a test that tells equality
abbrev pub Tells : {A : Type 0} → (A → A → Bool) → Type 0
Tells {A} same = (x y : A) → Decides (same x y) (x ≡ y)

pub pointwise-tells : {A : Type 0} (same : A → A → Bool) → Tells same → Tells (pointwise same)
pointwise-tells same tells xs ys = slice_eq-Decides tells xs ys _ refl

pub option_eq-tells : {A : Type 0} (same : A → A → Bool) → Tells same → Tells (option_eq same)
option_eq-tells same tells None None = (λ _. refl, λ _. refl)
option_eq-tells same tells None (Some y) = (λ h. cc, λ h. cc)
option_eq-tells same tells (Some x) None = (λ h. cc, λ h. cc)
option_eq-tells same tells (Some x) (Some y) = Decides-like _ (λ e. ap Some e) (λ e. ap (λ o. unwrap_or o x) e) (tells x y)

pub same_bool-tells : Tells same_bool
same_bool-tells true true = (λ _. refl, λ _. refl)
same_bool-tells true false = (λ h. cc, λ h. cc)
same_bool-tells false true = (λ h. cc, λ h. cc)
same_bool-tells false false = (λ _. refl, λ _. refl)

mode_of : ℕ → Mode
mode_of zero = Off
mode_of (suc zero) = Day
mode_of n = Night

mode_of-number : (m : Mode) → mode_of (mode_number m) ≡ m
unfolding mode_of
mode_of-number Off = refl
mode_of-number Day = refl
mode_of-number Night = refl

pub same_mode-tells : Tells same_mode
same_mode-tells m n = Decides-like _ (λ e. sym (mode_of-number m) ∙ ap mode_of e ∙ mode_of-number n) (λ e. ap mode_number e) (Decides-eqb (mode_number m) (mode_number n))

layer_of : ℕ → Layer
layer_of zero = Token
layer_of (suc zero) = Hidden
layer_of (suc (suc zero)) = Object
layer_of n = Background

layer_of-number : (m : Layer) → layer_of (layer_number m) ≡ m
unfolding layer_of
layer_of-number Token = refl
layer_of-number Hidden = refl
layer_of-number Object = refl
layer_of-number Background = refl

pub same_layer-tells : Tells same_layer
same_layer-tells m n = Decides-like _ (λ e. sym (layer_of-number m) ∙ ap layer_of e ∙ layer_of-number n) (λ e. ap layer_number e) (Decides-eqb (layer_number m) (layer_number n))

pub same_extent-tells : Tells same_extent
same_extent-tells a b = Decides-like _ (λ p. λ i. record { w = p.0 i; h = p.1 i }) (λ e. (ap (λ z. z.w) e, ap (λ z. z.h) e)) (Decides-and _ _ (Decides-eqb a.w b.w) (Decides-eqb a.h b.h))

pub same_cell-tells : Tells same_cell
same_cell-tells a b = Decides-like _ (λ p. λ i. record { x = p.0 i; y = p.1 i }) (λ e. (ap (λ z. z.x) e, ap (λ z. z.y) e)) (Decides-and _ _ (Decides-eqb a.x b.x) (Decides-eqb a.y b.y))

pair-tells : {A B : Type 0} (same_first : A → A → Bool) (same_second : B → B → Bool) → Tells same_first → Tells same_second
    → (a b : A × B) → Decides (same_first a.0 b.0 && same_second a.1 b.1) (a ≡ b)
pair-tells same_first same_second first second a b =
    Decides-like _ (λ p. λ i. (p.0 i, p.1 i)) (λ e. (ap (λ z. z.0) e, ap (λ z. z.1) e)) (Decides-and _ _ (first a.0 b.0) (second a.1 b.1))

pub same_letter-tells : Tells same_letter
same_letter-tells a b = pair-tells same_cell (λ m n. m == n) same_cell-tells Decides-eqb a b

pub same_light-tells : Tells same_light
same_light-tells a b = pair-tells bytes_eq int_eq bytes_eq-Decides Decides-int_eq a b

pub same_bytes-tells : Tells same_bytes
same_bytes-tells a b = pair-tells bytes_eq bytes_eq bytes_eq-Decides bytes_eq-Decides a b

same_props-tells : Tells same_props
same_props-tells = pointwise-tells same_bytes same_bytes-tells

pub same_map-tells : Tells same_map
same_map-tells a b = Decides-like _
    (λ p. λ i. record { name = p.0 i; size = p.1.0 i; mode = p.1.1.0 i; shown = p.1.1.1.0 i; seen = p.1.1.1.1.0 i; exposed = p.1.1.1.1.1.0 i; letters = p.1.1.1.1.1.1 i })
    (λ e. (ap (λ z. z.name) e, (ap (λ z. z.size) e, (ap (λ z. z.mode) e, (ap (λ z. z.shown) e, (ap (λ z. z.seen) e, (ap (λ z. z.exposed) e, ap (λ z. z.letters) e)))))))
    (Decides-and _ _ (bytes_eq-Decides a.name b.name) (Decides-and _ _ (same_extent-tells a.size b.size) (Decides-and _ _ (same_mode-tells a.mode b.mode) (Decides-and _ _ (option_eq-tells same_bool same_bool-tells a.shown b.shown)
    (Decides-and _ _ (cells_eq_tells a.seen b.seen) (Decides-and _ _ (cells_eq_tells a.exposed b.exposed) (pointwise-tells same_letter same_letter-tells a.letters b.letters)))))))

same_owned-tells : Tells same_owned
same_owned-tells a b = Decides-like _ (λ p. λ i. record { sight = p.0 i; light = p.1.0 i; own = p.1.1 i }) (λ e. (ap (λ z. z.sight) e, (ap (λ z. z.light) e, ap (λ z. z.own) e)))
    (Decides-and _ _ (option_eq-tells bytes_eq bytes_eq-Decides a.sight b.sight) (Decides-and _ _ (option_eq-tells bytes_eq bytes_eq-Decides a.light b.light) (same_props-tells a.own b.own)))

same_whole-tells : Tells same_whole
same_whole-tells a b = Decides-like _ (λ p. λ i. record { owners = p.0 i; secret = p.1.0 i; visible = p.1.1 i }) (λ e. (ap (λ z. z.owners) e, (ap (λ z. z.secret) e, ap (λ z. z.visible) e)))
    (Decides-and _ _ (bytes_eq-Decides a.owners b.owners) (Decides-and _ _ (same_props-tells a.secret b.secret) (same_bool-tells a.visible b.visible)))

pub same_token-tells : Tells same_token
same_token-tells a b = Decides-like _
    (λ p. λ i. record { id = p.0 i; name = p.1.0 i; map = p.1.1.0 i; cell = p.1.1.1.0 i; size = p.1.1.1.1.0 i; layer = p.1.1.1.1.1.0 i; props = p.1.1.1.1.1.1.0 i; owned = p.1.1.1.1.1.1.1.0 i; whole = p.1.1.1.1.1.1.1.1 i })
    (λ e. (ap (λ z. z.id) e, (ap (λ z. z.name) e, (ap (λ z. z.map) e, (ap (λ z. z.cell) e, (ap (λ z. z.size) e, (ap (λ z. z.layer) e, (ap (λ z. z.props) e, (ap (λ z. z.owned) e, ap (λ z. z.whole) e)))))))))
    (Decides-and _ _ (id_eq-Decides a.id b.id) (Decides-and _ _ (bytes_eq-Decides a.name b.name) (Decides-and _ _ (bytes_eq-Decides a.map b.map) (Decides-and _ _ (same_cell-tells a.cell b.cell) (Decides-and _ _ (Decides-eqb a.size b.size)
    (Decides-and _ _ (same_layer-tells a.layer b.layer) (Decides-and _ _ (same_props-tells a.props b.props) (Decides-and _ _ (option_eq-tells same_owned same_owned-tells a.owned b.owned) (option_eq-tells same_whole same_whole-tells a.whole b.whole)))))))))

pub same_entry-tells : Tells same_entry
same_entry-tells a b = pair-tells id_eq int_eq id_eq-Decides Decides-int_eq a b

pub same_fight-tells : Tells same_fight
same_fight-tells a b = Decides-like _ (λ p. λ i. record { list = p.0 i; round = p.1.0 i; turn = p.1.1 i }) (λ e. (ap (λ z. z.list) e, (ap (λ z. z.round) e, ap (λ z. z.turn) e)))
    (Decides-and _ _ (pointwise-tells same_entry same_entry-tells a.list b.list) (Decides-and _ _ (Decides-eqb a.round b.round) (option_eq-tells id_eq id_eq-Decides a.turn b.turn)))

pub same_view-tells : Tells same_view
unfolding same_view
same_view-tells a b = Decides-like _
    (λ p. λ i. record { gm = p.0 i; lights = p.1.0 i; sights = p.1.1.0 i; maps = p.1.1.1.0 i; tokens = p.1.1.1.1.0 i; fight = p.1.1.1.1.1 i })
    (λ e. (ap (λ z. z.gm) e, (ap (λ z. z.lights) e, (ap (λ z. z.sights) e, (ap (λ z. z.maps) e, (ap (λ z. z.tokens) e, ap (λ z. z.fight) e))))))
    (Decides-and _ _ (same_bool-tells a.gm b.gm) (Decides-and _ _ (pointwise-tells same_light same_light-tells a.lights b.lights) (Decides-and _ _ (pointwise-tells same_bytes same_bytes-tells a.sights b.sights)
    (Decides-and _ _ (pointwise-tells same_map same_map-tells a.maps b.maps) (Decides-and _ _ (pointwise-tells same_token same_token-tells a.tokens b.tokens)
    (option_eq-tells same_fight same_fight-tells a.fight b.fight))))))
