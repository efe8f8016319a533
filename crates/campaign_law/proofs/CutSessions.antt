-- Cuts along a history, and the sessions that they end.
use Rattle.std.proofs.Common.{◌≡◌, ℕ, suc, ◌≤◌, Bool, true, false, cond, ◌||◌, ◌&&◌, eqb, List, [], ◌∷◌, ◌++◌, length, take, drop, slice_get, refl, sym, ◌∙◌, ap, arith}
use Rattle.std.specs.Prelude.{Option, Some, None, option_map}
use Rattle.std.proofs.lemmas.Option.{slice_get_within}
use Rattle.std.proofs.lemmas.List.{take-append-le, drop-append-le, take-append-drop}
use Rattle.std.proofs.lemmas.Bool.{eqb-true}
use Rattle.seats.specs.SeatState.{is_free, is_joined}
use Rattle.seats.specs.declared.seat_state.SeatState.{SeatState}
use Rattle.seats.specs.declared.seat_state.SeatState.TheVariants.{Free, Joined, Closing}
use Rattle.campaign_law.specs.declared.entry.Entry.{Entry}
use Rattle.campaign_law.specs.declared.entry.Entry.TheVariants.{Join, Line, Leave, Taken, Cut}
use Rattle.campaign_law.specs.Seat.{Seat}
use Rattle.campaign_law.specs.World.{World, seat_at, step, replay}
use Rattle.campaign_law.specs.Law.{IsOpening}
use Rattle.campaign_law.specs.Session.{standing, standing_after, is_held_by, is_drop_of, has_ended}
use Rattle.campaign_law.specs.Cuts.{is_joined_by, cuts, is_cut_by, is_cut_since}
use Rattle.campaign_law.specs.SessionLaws.{Lasts, cut_seat, CutEndsSession, UncutDropsByLeave}
use Rattle.campaign_law.proofs.SessionFronts.{replay-parts}
use Rattle.campaign_law.proofs.SessionEnds.{next_of, replay_next, within_take, ended_next}
use Rattle.campaign_law.proofs.SessionLaws.{still_held}
use Rattle.campaign_law.proofs.Cuts.{cut_frees}

-- ---- histories entry by entry

by_more : (w : World) (es : List Entry) (e : Entry) (seat reader writer : ℕ) → is_cut_by w (es ++ e ∷ []) seat reader writer ≡ (is_cut_by w es seat reader writer || cuts seat reader writer (standing (seat_at (replay w es) seat)) e)
by_more w [] e seat reader writer = or_none (cuts seat reader writer (standing (seat_at w seat)) e)
  where
    or_none : (b : Bool) → (b || false) ≡ b
    or_none true = refl
    or_none false = refl
by_more w (x ∷ es) e seat reader writer =
    ap (λ b. cuts seat reader writer (standing (seat_at w seat)) x || b) (by_more (step w x) es e seat reader writer) ∙ regroup (cuts seat reader writer (standing (seat_at w seat)) x) _ _
  where
    regroup : (a b c : Bool) → (a || (b || c)) ≡ ((a || b) || c)
    regroup true b c = refl
    regroup false b c = refl

-- with an entry more
pub cut_more : (w : World) (h : List Entry) (e : Entry) (place seat reader writer : ℕ) → place ≤ length h → is_cut_since w (h ++ e ∷ []) place seat reader writer ≡ (is_cut_since w h place seat reader writer || cuts seat reader writer (standing_after w h seat) e)
cut_more w h e place seat reader writer within =
    rw (take-append-le place h (e ∷ []) within, drop-append-le place h (e ∷ []) within)
    (by_more (replay w (take place h)) (drop place h) e seat reader writer
    ∙ ap (λ v. is_cut_since w h place seat reader writer || cuts seat reader writer (standing (seat_at v seat)) e) (replay-parts w h place))

or_longer : (here before after : Bool) → (before ≡ true → after ≡ true) → (here || before) ≡ true → (here || after) ≡ true
or_longer true before after longer h = refl
or_longer false before after longer h = longer h

by_longer : (w : World) (es more : List Entry) (seat reader writer : ℕ) → is_cut_by w es seat reader writer ≡ true → is_cut_by w (es ++ more) seat reader writer ≡ true
by_longer w [] more seat reader writer cut = cc
by_longer w (e ∷ es) more seat reader writer cut =
    or_longer (cuts seat reader writer (standing (seat_at w seat)) e) (is_cut_by (step w e) es seat reader writer) (is_cut_by (step w e) (es ++ more) seat reader writer) (by_longer (step w e) es more seat reader writer) cut

-- a Cut in a front of the history is one in the whole
pub cut_stays : (w : World) (h more : List Entry) (place seat reader writer : ℕ) → place ≤ length h → is_cut_since w h place seat reader writer ≡ true → is_cut_since w (h ++ more) place seat reader writer ≡ true
cut_stays w h more place seat reader writer within cut =
    rw (take-append-le place h more within, drop-append-le place h more within) (by_longer (replay w (take place h)) (drop place h) more seat reader writer cut)

-- a Cut that stands at this place of the history or behind it
pub cut_at : (w : World) (h : List Entry) (place seat reader writer n : ℕ) (e : Entry) → place ≤ n → slice_get h n ≡ Some e → cuts seat reader writer (standing_after w (take n h) seat) e ≡ true → is_cut_since w h place seat reader writer ≡ true
cut_at w h place seat reader writer n e behind there cut =
    let lt = slice_get_within h n e there in
    let x = next_of h n lt in
    let same : x.entry ≡ e = cc (x.there, there) in
    let front : take (suc n) h ≡ take n h ++ e ∷ [] = x.front ∙ ap (λ y. take n h ++ y ∷ []) same in
    let within = within_take h place n behind (omega (arith, lt)) in
    let longer = within_take h place (suc n) (omega (arith, behind)) lt in
    let now : is_cut_since w (take (suc n) h) place seat reader writer ≡ true =
    ap (λ l. is_cut_since w l place seat reader writer) front ∙ cut_more w (take n h) e place seat reader writer within ∙ or_second (is_cut_since w (take n h) place seat reader writer) _ cut in
    ap (λ l. is_cut_since w l place seat reader writer) (sym (take-append-drop (suc n) h)) ∙ cut_stays w (take (suc n) h) (drop (suc n) h) place seat reader writer longer now
  where
    or_second : (a b : Bool) → b ≡ true → (a || b) ≡ true
    or_second true b h = refl
    or_second false b h = h

-- ---- sessions

and_both : (a b : Bool) → (a && b) ≡ true → (a ≡ true) × (b ≡ true)
and_both true b h = (refl, h)
and_both false b h = cc

joined_by : (reader writer : ℕ) (state : SeatState) → is_held_by reader writer state ≡ true → is_joined state ≡ true → is_joined_by reader writer state ≡ true
joined_by reader writer Free held joined = cc
joined_by reader writer (Joined r w) held joined = held
joined_by reader writer (Closing r w) held joined = cc

is_there : (reader writer : ℕ) (state : SeatState) → is_joined_by reader writer state ≡ true → is_joined state ≡ true
is_there reader writer Free is = cc
is_there reader writer (Joined r w) is = refl
is_there reader writer (Closing r w) is = cc

-- only a Leave drops the lines of a session that isn't cut
drops_by_leave : (w : World) (h : List Entry) (place seat reader writer n : ℕ) (e : Entry) (state : SeatState) → state ≡ standing_after w (take n h) seat → is_held_by reader writer state ≡ true → place ≤ n → slice_get h n ≡ Some e
    → is_cut_since w h place seat reader writer ≡ false → is_drop_of seat state e ≡ true → e ≡ Leave seat true
drops_by_leave w h place seat reader writer n (Join s key r v) state is held behind there uncut drops = cc
drops_by_leave w h place seat reader writer n (Line s bytes) state is held behind there uncut drops = cc
drops_by_leave w h place seat reader writer n (Taken s count) state is held behind there uncut drops = cc
drops_by_leave w h place seat reader writer n (Leave s drop) state is held behind there uncut drops =
    let both = and_both drop (eqb s seat) drops in
    let same : s ≡ seat = eqb-true s seat both.1 in
    λ i. Leave (same i) (both.0 i)
drops_by_leave w h place seat reader writer n (Cut s) state is held behind there uncut drops =
    let both = and_both (is_joined state) (eqb s seat) drops in
    let joined = joined_by reader writer state held both.0 in
    let cut : cuts seat reader writer (standing_after w (take n h) seat) (Cut s) ≡ true = ap (λ x. cuts seat reader writer x (Cut s)) (sym is) ∙ (λ i. both.1 i && joined i) in
    let z : true ≡ false = sym (cut_at w h place seat reader writer n (Cut s) behind there cut) ∙ uncut in absurd cc

pub uncut_drops_by_leave : UncutDropsByLeave
uncut_drops_by_leave w h place seat reader writer n e sits lasts there uncut drops =
    drops_by_leave w h place seat reader writer n e (standing_after w (take n h) seat) refl (still_held w h place seat reader writer sits n lasts.behind lasts.within lasts.open_) (let b = lasts.behind in omega (arith, b)) there uncut drops

-- a Joined seat is Free after its Cut
freed_by_cut : (w : World) (h : List Entry) (seat : ℕ) → IsOpening w → is_joined (standing_after w h seat) ≡ true → is_free (standing (seat_at (step (replay w h) (Cut seat)) seat)) ≡ true
freed_by_cut w h seat opening joined = ap (λ (s : Option Seat). is_free (standing s)) (cut_frees w h seat opening).own ∙ by (seat_at (replay w h) seat) joined
  where
    by_joined : (s : Seat) (j : Bool) → is_joined s.book.state ≡ j → j ≡ true → is_free (cut_seat s).book.state ≡ true
    by_joined s false is j = cc
    by_joined s true is j = ap (λ b. is_free (cond b (record s { book = record s.book { state = Free }; queued = 0; taken = 0 }) s).book.state) is

    by : (s : Option Seat) → is_joined (standing s) ≡ true → is_free (standing (option_map cut_seat s)) ≡ true
    by None joined = cc
    by (Some s) joined = by_joined s (is_joined s.book.state) refl joined

cut_ends : (w : World) (h : List Entry) (place seat reader writer n : ℕ) (e : Entry) → IsOpening w → Lasts w h place seat n → slice_get h n ≡ Some e → cuts seat reader writer (standing_after w (take n h) seat) e ≡ true → has_ended w (take (suc n) h) place seat ≡ true
cut_ends w h place seat reader writer n (Join s key r v) opening lasts there cut = cc
cut_ends w h place seat reader writer n (Line s bytes) opening lasts there cut = cc
cut_ends w h place seat reader writer n (Leave s drop) opening lasts there cut = cc
cut_ends w h place seat reader writer n (Taken s count) opening lasts there cut = cc
cut_ends w h place seat reader writer n (Cut s) opening lasts there cut =
    let both = and_both (eqb s seat) (is_joined_by reader writer (standing_after w (take n h) seat)) cut in
    let same : s ≡ seat = eqb-true s seat both.0 in
    let lt = slice_get_within h n (Cut s) there in
    let x = next_of h n lt in
    let entry : x.entry ≡ Cut seat = cc (x.there, there, same) in
    let free : is_free (standing_after w (take (suc n) h) seat) ≡ true =
    ap (λ v. is_free (standing (seat_at v seat))) (replay_next w h n x ∙ ap (step (replay w (take n h))) entry) ∙ freed_by_cut w (take n h) seat opening (is_there reader writer (standing_after w (take n h) seat) both.1) in
    ended_next w h place seat n (let b = lasts.behind in omega (arith, b)) lt ∙ or_second (has_ended w (take n h) place seat) _ free
  where
    or_second : (a b : Bool) → b ≡ true → (a || b) ≡ true
    or_second true b h = refl
    or_second false b h = h

pub cut_ends_session : CutEndsSession
cut_ends_session w h place seat reader writer n e opening lasts there cut = cut_ends w h place seat reader writer n e opening lasts there cut
