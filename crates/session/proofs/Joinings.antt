-- A turn in which a session joins.
use Rattle.std.proofs.Common.{◌≡◌, ℕ, suc, ◌+◌, Bool, true, false, ◌&&◌, eqb, List, [], ◌∷◌, ◌++◌, length, refl, sym, ◌∙◌, ap, subst, arith, eq-eqb, length-append, inl, inr}
use Rattle.std.specs.Prelude.{Option, Some, None, option_map}
use Rattle.std.proofs.lemmas.List.{take_all}
use Rattle.seats.specs.Book.{Book, join_refusal}
use Rattle.seats.specs.SeatState.{is_joined}
use Rattle.seats.specs.declared.seat_state.SeatState.TheVariants as states
use Rattle.seats.specs.declared.seat_state.JoinRefusal.{JoinRefusal}
use Rattle.seats.specs.declared.seat_state.JoinRefusal.TheVariants as joins
use Rattle.command_rules.specs.declared.refusal.Refusal.TheVariants.{BadKey}
use Rattle.player_view.specs.View.{view_of}
use Rattle.player_view.specs.Asked.{Asked}
use Rattle.campaign_law.specs.declared.entry.Entry.{Entry}
use Rattle.campaign_law.specs.declared.entry.Entry.TheVariants.{Join}
use Rattle.campaign_law.specs.Seat.{Seat, is_let_go, settled}
use Rattle.campaign_law.specs.Texts.{refusal_line}
use Rattle.campaign_law.specs.Outcome.{Outcome, outcome_at, join_outcome, refusal_of_join, count_if_joined}
use Rattle.campaign_law.specs.World.{World, seat_at, asked_of, report_of, outcome_of, scene_after, changed, queued_lines, seat_after, step, replay}
use Rattle.campaign_law.specs.Law.{IsOpening, answer_of}
use Rattle.campaign_law.specs.Session.{standing, standing_after, IsSeated}
use Rattle.campaign_law.proofs.Joins.{join_seats}
use Rattle.campaign_law.proofs.Sessions.{seat_at-after, replay_more}
use Rattle.session.specs.declared.hold.Hold.{Hold}
use Rattle.session.specs.declared.joining.Joined.TheVariants.{Seated, Refused}
use Rattle.session.specs.Held.{is_held, is_read}
use Rattle.session.specs.Spoken.{is_spent}
use Rattle.session.specs.Joined.{Joins, TellsJoin, direct_line}
use Rattle.campaign_law.proofs.Seats.{grown}
use Rattle.session.proofs.Byes.{by_limit, spent_closed}

-- ---- the answer

module _ (v : World) (seat : ℕ) (key : List ℕ) (reader writer : ℕ) where
  abbrev e : Entry
  e = Join seat key reader writer

  abbrev asked : Asked
  asked = asked_of v seat

  told_by : (steps : ℕ) (b : Book) (r : Option JoinRefusal) → TellsJoin (answer_of steps (join_outcome asked b reader writer r))
  told_by steps b None = inl refl
  told_by steps b (Some refusal) = inr (refusal, refusal_line (count_if_joined b) (refusal_of_join refusal), refl, refl)

  told_at : (steps : ℕ) (before : Option Seat) → TellsJoin (answer_of steps (outcome_at asked (report_of v e) before e))
  told_at steps None = inr (joins.BadKey, refusal_line 0 BadKey, refl, refl)
  told_at steps (Some s) = told_by steps s.book (join_refusal s.book key)

  -- a Join is accepted, or refused for a cause that a line tells
  pub join_told : (steps : ℕ) → TellsJoin (answer_of steps (outcome_of v e))
  join_told steps = told_at steps (seat_at v seat)

  -- ---- the seat's last line

  spends_by : (n : ℕ) (s : Seat) (r : Option JoinRefusal) (acts : Bool) → acts ≡ true → (join_outcome asked s.book reader writer r).refusal ≡ None → is_joined (settled n (changed (join_outcome asked s.book reader writer r) acts s)).book.state ≡ false
      → eqb (settled n (changed (join_outcome asked s.book reader writer r) acts s)).book.lines 16384 ≡ true
  spends_by n s (Some refusal) acts own fine closing = cc
  spends_by n s None false own fine closing = cc
  spends_by n s None true own fine closing =
      elim (by_limit n (record s { book = record s.book { state = states.Joined reader writer } }) (changed (join_outcome asked s.book reader writer None) true s) (eqb (s.book.lines + 1) 16384) refl (record { state = refl; lines = refl }) refl) [
        | inl spent ↦ spent
        | inr stays ↦ (let z : true ≡ false = sym (ap is_joined stays.state) ∙ closing in absurd cc)
      ]

  -- a Join behind which the seat isn't Joined is its last line
  pub join_spends : (outcome_of v e).refusal ≡ None → is_joined (standing (seat_at (step v e) seat)) ≡ false → is_spent (seat_at (step v e) seat) ≡ true
  join_spends accepted closing = by_seat (seat_at v seat) refl
    where
      by_seat : (before : Option Seat) → seat_at v seat ≡ before → is_spent (seat_at (step v e) seat) ≡ true
      by_seat None is = let z : (outcome_at asked (report_of v e) None e).refusal ≡ None = sym (ap (λ b. (outcome_at asked (report_of v e) b e).refusal) is) ∙ accepted in absurd cc
      by_seat (Some s) is =
          let o : Outcome = join_outcome asked s.book reader writer (join_refusal s.book key) in
          let same : outcome_of v e ≡ o = ap (λ b. outcome_at asked (report_of v e) b e) is in
          let count : Outcome → ℕ = λ x. length (queued_lines seat (eqb seat seat) (Some s) x (view_of v.scene seat) (view_of (scene_after v e) seat)) in
          let there : seat_at (step v e) seat ≡ Some (settled (count o) (changed o (eqb seat seat) s)) =
          seat_at-after v e seat ∙ ap (option_map (seat_after v e seat)) is ∙ ap (λ x. Some (settled (count x) (changed x (eqb seat seat) s))) same in
          ap is_spent there ∙ spends_by (count o) s (join_refusal s.book key) (eqb seat seat) (eq-eqb seat seat refl) (sym (ap (λ (x : Outcome). x.refusal) same) ∙ accepted) (sym (ap (λ b. is_joined (standing b)) there) ∙ closing)

  goes_by : (n : ℕ) (s : Seat) (r : Option JoinRefusal) (acts : Bool) → acts ≡ true → (join_outcome asked s.book reader writer r).refusal ≡ None → is_joined (settled n (changed (join_outcome asked s.book reader writer r) acts s)).book.state ≡ true
      → (t : Bool) → eqb (settled n (changed (join_outcome asked s.book reader writer r) acts s)).book.lines 16384 ≡ t → t ≡ false
  goes_by n s r acts own fine joined false is = refl
  goes_by n s (Some refusal) acts own fine joined true is = cc
  goes_by n s None false own fine joined true is = cc
  goes_by n s None true own fine joined true is =
      let c : Seat = changed (join_outcome asked s.book reader writer None) true s in
      let z : true ≡ false = sym joined ∙ spent_closed n (record s { book = record s.book { state = states.Joined reader writer } }) c (is_let_go (grown n c)) refl (record { state = λ _. refl; lines = refl }) is in
      cc

  -- and behind another it has lines to come
  pub join_goes_on : (outcome_of v e).refusal ≡ None → is_joined (standing (seat_at (step v e) seat)) ≡ true → is_spent (seat_at (step v e) seat) ≡ false
  join_goes_on accepted joined = by_seat (seat_at v seat) refl
    where
      by_seat : (before : Option Seat) → seat_at v seat ≡ before → is_spent (seat_at (step v e) seat) ≡ false
      by_seat None is = let z : (outcome_at asked (report_of v e) None e).refusal ≡ None = sym (ap (λ b. (outcome_at asked (report_of v e) b e).refusal) is) ∙ accepted in absurd cc
      by_seat (Some s) is =
          let o : Outcome = join_outcome asked s.book reader writer (join_refusal s.book key) in
          let same : outcome_of v e ≡ o = ap (λ b. outcome_at asked (report_of v e) b e) is in
          let count : Outcome → ℕ = λ x. length (queued_lines seat (eqb seat seat) (Some s) x (view_of v.scene seat) (view_of (scene_after v e) seat)) in
          let there : seat_at (step v e) seat ≡ Some (settled (count o) (changed o (eqb seat seat) s)) =
          seat_at-after v e seat ∙ ap (option_map (seat_after v e seat)) is ∙ ap (λ x. Some (settled (count x) (changed x (eqb seat seat) s))) same in
          ap is_spent there ∙ goes_by (count o) s (join_refusal s.book key) (eqb seat seat) (eq-eqb seat seat refl) (sym (ap (λ (x : Outcome). x.refusal) same) ∙ accepted) (sym (ap (λ b. is_joined (standing b)) there) ∙ joined) (eqb (settled (count o) (changed o (eqb seat seat) s)).book.lines 16384) refl

-- ---- the turn

held_joined : (a b : Bool) → a ≡ true → (a && b) ≡ false → b ≡ false
held_joined true b held reads = reads
held_joined false b held reads = cc

joined_of : (a b : Bool) → (a && b) ≡ true → b ≡ true
joined_of true b reads = reads
joined_of false b reads = cc

pub seated_joins : (w : World) (h after : List Entry) (seat : ℕ) (key : Option (List ℕ)) (k : List ℕ) (reader writer place : ℕ) (reads : Bool) → IsOpening w → key ≡ Some k → (outcome_of (replay w h) (Join seat k reader writer)).refusal ≡ None → after ≡ h ++ Join seat k reader writer ∷ [] → place ≡ length h
    → reads ≡ is_read w after (record { seat = seat; place = place; reader = reader; writer = writer }) → Joins w seat key reader writer h true (Seated place reads) after
seated_joins w h after seat key k reader writer place reads opening has accepted goes there reading =
    let e : Entry = Join seat k reader writer in
    let hold : Hold = record { seat = seat; place = place; reader = reader; writer = writer } in
    let seated : IsSeated w after place seat reader writer =
    subst (λ l. IsSeated w l place seat reader writer) (sym goes) (subst (λ n. IsSeated w (h ++ e ∷ []) n seat reader writer) (sym there) (join_seats w h seat k reader writer opening accepted)) in
    let long : length after ≡ place + 1 = ap length goes ∙ length-append h (e ∷ []) ∙ ap (λ n. n + 1) (sym there) in
    let held : is_held w after hold ≡ true = sym (ap (λ l. is_held w l hold) (take_all (suc place) after (omega (arith, long)))) ∙ seated.held in
    let stepped : replay w after ≡ step (replay w h) e = ap (replay w) goes ∙ replay_more w h e in
    record {
      not = λ f. cc;
      follows = λ _ text is. record {
        last = there;
        seated = seated;
        reads_is = reading;
        spent = λ none.
            let closing : is_joined (standing_after w after seat) ≡ false = held_joined (is_held w after hold) (is_joined (standing_after w after seat)) held (sym reading ∙ none) in
            ap (λ x. is_spent (seat_at x seat)) stepped ∙ join_spends (replay w h) seat k reader writer accepted (sym (ap (λ x. is_joined (standing (seat_at x seat))) stepped) ∙ closing);
        unspent = λ read.
            let joined : is_joined (standing_after w after seat) ≡ true = joined_of (is_held w after hold) (is_joined (standing_after w after seat)) (sym reading ∙ read) in
            ap (λ x. is_spent (seat_at x seat)) stepped ∙ join_goes_on (replay w h) seat k reader writer accepted (sym (ap (λ x. is_joined (standing (seat_at x seat))) stepped) ∙ joined);
      };
    }

pub refused_joins : (w : World) (h after : List Entry) (seat : ℕ) (key : Option (List ℕ)) (k : List ℕ) (reader writer : ℕ) (refusal : JoinRefusal) (line : List ℕ) (long : ℕ) → key ≡ Some k → (outcome_of (replay w h) (Join seat k reader writer)).refusal ≡ Some (refusal_of_join refusal)
    → direct_line (outcome_of (replay w h) (Join seat k reader writer)) ≡ Some line → long ≡ length after → Joins w seat key reader writer h true (Refused refusal line long) after
refused_joins w h after seat key k reader writer refusal line long has cause told long_is = record {
  not = λ f. cc;
  follows = λ _ text is.
      let same : k ≡ text = cc (has, is) in (
        record {
          cause = ap (λ t. (outcome_of (replay w h) (Join seat t reader writer)).refusal) (sym same) ∙ cause;
          told = ap (λ t. direct_line (outcome_of (replay w h) (Join seat t reader writer))) (sym same) ∙ told;
        },
        long_is,
      );
}
