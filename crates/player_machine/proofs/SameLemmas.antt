-- The tests tell equality.
use Rattle.std.proofs.Common.{◌≡◌, ℕ, Bool, true, ◌&&◌, ◌==◌, List, refl, subst, ap}
use Rattle.std.specs.Bool.{Decides}
use Rattle.std.specs.Str.{bytes_eq}
use Rattle.std.proofs.lemmas.Bool.Decides.{Decides-and, Decides-like, Decides-eqb}
use Rattle.std.proofs.lemmas.Slice.Eq.{bytes_eq-Decides}
use Rattle.seats.specs.Book.{Book}
use Rattle.seats.specs.declared.seat_state.SeatState.{SeatState}
use Rattle.seats.specs.declared.seat_state.SeatState.TheVariants.{Free, Joined, Closing}
use Rattle.views.specs.Same.{same_bool, same_bytes, same_view}
use Rattle.views.proofs.SameLemmas.{Tells, pointwise-tells, option_eq-tells, same_bool-tells, same_bytes-tells, same_view-tells}
use Rattle.campaign_law.specs.declared.entry.Entry.{Entry}
use Rattle.campaign_law.specs.declared.entry.Entry.TheVariants.{Join, Line, Leave, Taken, Cut}
use Rattle.campaign_law.specs.Player.{Opening, Item, own, message, view}
use Rattle.player_machine.specs.Same.{same_state, same_book, same_opening, same_entry, same_item}

-- a test tells equality that only equal ones pass, and each passes with itself
by_same : {A : Type 0} (same : A → A → Bool) → ((a b : A) → same a b ≡ true → a ≡ b) → ((a : A) → same a a ≡ true) → Tells same
by_same same sound itself a b = (sound a b, λ e. subst (λ x. same a x ≡ true) e (itself a))

eqb_same : (n : ℕ) → (n == n) ≡ true
eqb_same n = (Decides-eqb n n).1 refl

bytes_same : (bytes : List ℕ) → bytes_eq bytes bytes ≡ true
bytes_same bytes = (bytes_eq-Decides bytes bytes).1 refl

both : (x y : Bool) → x ≡ true → y ≡ true → (x && y) ≡ true
both x y h g = λ i. h i && g i

numbers_tell : (a b c d : ℕ) → Decides ((a == b) && (c == d)) ((a ≡ b) × (c ≡ d))
numbers_tell a b c d = Decides-and _ _ (Decides-eqb a b) (Decides-eqb c d)

-- ---- openings

state_sound : (a b : SeatState) → same_state a b ≡ true → a ≡ b
state_sound Free Free h = refl
state_sound (Joined reader writer) (Joined reader2 writer2) h = let p = (numbers_tell reader reader2 writer writer2).0 h in λ i. Joined (p.0 i) (p.1 i)
state_sound (Closing reader writer) (Closing reader2 writer2) h = let p = (numbers_tell reader reader2 writer writer2).0 h in λ i. Closing (p.0 i) (p.1 i)
state_sound a b h = cc

state_same : (a : SeatState) → same_state a a ≡ true
state_same Free = refl
state_same (Joined reader writer) = both _ _ (eqb_same reader) (eqb_same writer)
state_same (Closing reader writer) = both _ _ (eqb_same reader) (eqb_same writer)

same_state-tells : Tells same_state
same_state-tells = by_same same_state state_sound state_same

same_book-tells : Tells same_book
same_book-tells a b = Decides-like _
    (λ p. λ i. record { seat = p.0 i; key = p.1.0 i; seed = p.1.1.0 i; drawn = p.1.1.1.0 i; tags = p.1.1.1.1.0 i; lines = p.1.1.1.1.1.0 i; state = p.1.1.1.1.1.1.0 i; macros = p.1.1.1.1.1.1.1 i })
    (λ e. (ap (λ z. z.seat) e, (ap (λ z. z.key) e, (ap (λ z. z.seed) e, (ap (λ z. z.drawn) e, (ap (λ z. z.tags) e, (ap (λ z. z.lines) e, (ap (λ z. z.state) e, ap (λ z. z.macros) e))))))))
    (Decides-and _ _ (Decides-eqb a.seat b.seat) (Decides-and _ _ (bytes_eq-Decides a.key b.key) (Decides-and _ _ (bytes_eq-Decides a.seed b.seed) (Decides-and _ _ (Decides-eqb a.drawn b.drawn)
    (Decides-and _ _ (pointwise-tells bytes_eq bytes_eq-Decides a.tags b.tags) (Decides-and _ _ (Decides-eqb a.lines b.lines) (Decides-and _ _ (same_state-tells a.state b.state) (pointwise-tells same_bytes same_bytes-tells a.macros b.macros))))))))

pub same_opening-tells : Tells same_opening
same_opening-tells a b = Decides-like _
    (λ p. λ i. record { book = p.1 i; seats = p.0 i })
    (λ e. (ap (λ z. z.seats) e, ap (λ z. z.book) e))
    (Decides-and _ _ (Decides-eqb a.seats b.seats) (option_eq-tells same_book same_book-tells a.book b.book))

-- ---- items

entry_sound : (a b : Entry) → same_entry a b ≡ true → a ≡ b
entry_sound (Join seat key reader writer) (Join seat2 key2 reader2 writer2) h =
    let p = (Decides-and _ _ (Decides-eqb seat seat2) (Decides-and _ _ (bytes_eq-Decides key key2) (numbers_tell reader reader2 writer writer2))).0 h in
    λ i. Join (p.0 i) (p.1.0 i) (p.1.1.0 i) (p.1.1.1 i)
entry_sound (Line seat bytes) (Line seat2 bytes2) h = let p = (Decides-and _ _ (Decides-eqb seat seat2) (bytes_eq-Decides bytes bytes2)).0 h in λ i. Line (p.0 i) (p.1 i)
entry_sound (Leave seat drop) (Leave seat2 drop2) h = let p = (Decides-and _ _ (Decides-eqb seat seat2) (same_bool-tells drop drop2)).0 h in λ i. Leave (p.0 i) (p.1 i)
entry_sound (Taken seat count) (Taken seat2 count2) h = let p = (numbers_tell seat seat2 count count2).0 h in λ i. Taken (p.0 i) (p.1 i)
entry_sound (Cut seat) (Cut seat2) h = ap Cut ((Decides-eqb seat seat2).0 h)
entry_sound a b h = cc

entry_same : (a : Entry) → same_entry a a ≡ true
entry_same (Join seat key reader writer) = both _ _ (eqb_same seat) (both _ _ (bytes_same key) (both _ _ (eqb_same reader) (eqb_same writer)))
entry_same (Line seat bytes) = both _ _ (eqb_same seat) (bytes_same bytes)
entry_same (Leave seat drop) = both _ _ (eqb_same seat) ((same_bool-tells drop drop).1 refl)
entry_same (Taken seat count) = both _ _ (eqb_same seat) (eqb_same count)
entry_same (Cut seat) = eqb_same seat

same_entry-tells : Tells same_entry
same_entry-tells = by_same same_entry entry_sound entry_same

item_sound : (a b : Item) → same_item a b ≡ true → a ≡ b
item_sound (own e steps) (own e2 steps2) h = let p = (Decides-and _ _ (same_entry-tells e e2) (Decides-eqb steps steps2)).0 h in λ i. own (p.0 i) (p.1 i)
item_sound (message line) (message line2) h = ap message ((bytes_eq-Decides line line2).0 h)
item_sound (view v) (view v2) h = ap view ((same_view-tells v v2).0 h)
item_sound a b h = cc

item_same : (a : Item) → same_item a a ≡ true
item_same (own e steps) = both _ _ (entry_same e) (eqb_same steps)
item_same (message line) = bytes_same line
item_same (view v) = (same_view-tells v v).1 refl

pub same_item-tells : Tells same_item
same_item-tells = by_same same_item item_sound item_same
