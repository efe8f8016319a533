-- A token that a command makes is new.
use Rattle.std.proofs.Common.{◌≡◌, ℕ, Bool, true, false, cond, List, [], ◌∷◌, length, Some, None, refl, ap, sym, subst, ◌∙◌}
use Rattle.std.specs.Prelude.{is_some, option_map}
use Rattle.std.specs.Option.{ForSome}
use Rattle.names.specs.declared.token_id.TokenId.{TokenId}
use Rattle.names.specs.TokenId.{id_eq}
use Rattle.names.proofs.SameIds.{id_eq-Decides}
use Rattle.maps.proofs.NameLemmas.{and_first, and_second}
use Rattle.seats.specs.Book.{Book}
use Rattle.tokens.specs.declared.token.Token.{Token}
use Rattle.tokens.specs.Tokens.{has_token, token_of}
use Rattle.world.specs.World.{is_used, are_used, used_by}
use Rattle.command_json.specs.declared.command.Command.{Command}
use Rattle.command_rules.specs.Rules.{rule_of}
use Rattle.command_effects.specs.Tags.{tag_made, MayUse, MayUseTag, MakesNew}
use Rattle.command_effects.proofs.NewTags.{may_use}
use Rattle.campaign_law.specs.declared.entry.Entry.{Entry}
use Rattle.campaign_law.specs.Seat.{Seat}
use Rattle.campaign_law.specs.Outcome.{Report, Outcome, outcome_at, seat_of}
use Rattle.campaign_law.specs.World.{World, seat_at, asked_of}
use Rattle.campaign_law.specs.Worlds.{opened_of, FitsTogether}
use Rattle.campaign_law.proofs.Allowed.{outcome_none}
use Rattle.campaign_law.proofs.Worlds.{slice_get-books, seat_numbered}

-- one whose tag its maker hasn't used isn't there
pub unused_absent : (books : List Book) (tokens : List Token) (id : TokenId) → are_used books tokens ≡ true → is_used books id ≡ false → has_token id tokens ≡ false
unused_absent books [] id used new = refl
unused_absent books (t ∷ tokens) id used new = by (id_eq t.id id) refl (unused_absent books tokens id (and_second (is_used books t.id) (are_used books tokens) used) new)
  where
    by : (b : Bool) → id_eq t.id id ≡ b → has_token id tokens ≡ false → is_some (cond b (Some t) (token_of id tokens)) ≡ false
    by true same rest =
        let yes : is_used books t.id ≡ true = and_first (is_used books t.id) (are_used books tokens) used in
        let no : is_used books t.id ≡ false = ap (is_used books) ((id_eq-Decides t.id id).0 same) ∙ new in
        absurd cc
    by false same rest = rest

-- ---- what an accepted command makes

pub makes_new : (w : World) (e : Entry) (report : Report) (o : Outcome) (c : Command) → FitsTogether w → o ≡ outcome_at (asked_of w (seat_of e)) report (seat_at w (seat_of e)) e → o.done ≡ Some c → MakesNew w.scene (seat_of e) c
makes_new w e report o c fits is done tag made =
    let did = outcome_none (asked_of w (seat_of e)) report (seat_at w (seat_of e)) e c (ap (λ (x : Outcome). x.done) (sym is) ∙ done) in
    let may = may_use (length w.seats) w.scene (seat_of e) did.acting.book.tags c did.broke.rule tag made in
    let unused : is_used (opened_of w).books (record { maker = seat_of e; tag = tag }) ≡ false =
    ap (λ o. used_by o tag) (slice_get-books w e w.seats (seat_of e) ∙ ap (option_map (λ (s : Seat). s.book)) did.there) ∙ may.unused in
    unused_absent (opened_of w).books w.scene.tokens (record { maker = seat_of e; tag = tag }) fits.tags unused

-- the seat may use the tag, with this book and with any that has the same number and tags
pub may_use_made : (w : World) (seat : ℕ) (s : Seat) (c : Command) (b : Book) → FitsTogether w → seat_at w seat ≡ Some s → rule_of (asked_of w seat) seat s.book.tags c ≡ None → b.seat ≡ s.book.seat → b.tags ≡ s.book.tags → MayUseTag b c
may_use_made w seat s c b fits at rule same_seat same_tags =
    let number : b.seat ≡ seat = same_seat ∙ seat_numbered w seat s fits at in
    subst (λ tags. ForSome (tag_made c) (MayUse b.seat tags)) (sym same_tags)
    (subst (λ n. ForSome (tag_made c) (MayUse n s.book.tags)) (sym number) (may_use (length w.seats) w.scene seat s.book.tags c rule))
