-- A session from its Join on.
use Rattle.std.proofs.Common.{◌≡◌, ◌≢◌, ℕ, suc, ◌<◌, ◌≤◌, Bool, true, false, cond, List, [], ◌∷◌, ◌++◌, length, take, slice_get, refl, sym, ◌∙◌, ap, subst, arith, length-append}
use Rattle.std.specs.Prelude.{Option, Some, None}
use Rattle.std.proofs.lemmas.List.{append-nil, take_all, take-append-le}
use Rattle.std.proofs.lemmas.List.Elements.{All-nil, Contains-push}
use mathlib.Core.List.{IsPrefix}
use Rattle.line_io.specs.Told.{WhereTold}
use Rattle.line_io.specs.Reader.{bytes_to_come}
use Rattle.line_io.specs.ReaderState.{ReaderState}
use Rattle.seats.specs.SeatState.{is_free}
use Rattle.seats.specs.declared.seat_state.JoinRefusal.{JoinRefusal}
use Rattle.campaign_law.specs.declared.entry.Entry.{Entry}
use Rattle.campaign_law.specs.declared.entry.Entry.TheVariants.{Join}
use Rattle.campaign_law.specs.World.{World, seat_at, outcome_of, replay}
use Rattle.campaign_law.specs.Law.{IsOpening}
use Rattle.campaign_law.specs.Session.{IsSeated, standing_after, is_held_by}
use Rattle.turn_lock.specs.Pass.{PassState, places}
use Rattle.turn_lock.proofs.Prefixes.{prefix_self, prefix_get, prefix_trans, prefix_length}
use Rattle.session.specs.declared.hold.Hold.{Hold}
use Rattle.session.specs.declared.input.Stop.{Stop}
use Rattle.session.specs.declared.joining.Joined.{Joined}
use Rattle.session.specs.declared.joining.Joined.TheVariants as joins
use Rattle.session.specs.declared.sitting.Ended.{Ended}
use Rattle.session.specs.declared.sitting.Ended.TheVariants as ends
use Rattle.session.specs.declared.hearing.ReadEnd.{ReadEnd}
use Rattle.session.specs.declared.hearing.ReadEnd.TheVariants as reads
use Rattle.session.specs.declared.writing.Wrote.{Wrote}
use Rattle.session.specs.Inputs.{Stops}
use Rattle.session.specs.Own.{Grew}
use Rattle.session.specs.Held.{is_read, HasJoined}
use Rattle.session.specs.Heard.{CameBut, AreFirst, HasHeard}
use Rattle.session.specs.Written.{HasWritten}
use Rattle.session.specs.JoinTurn.{TakesSeat}
use Rattle.session.specs.Joined.{IsRefusedBy, IsTaken, IsFollowed}
use Rattle.session.specs.Spoken.{is_spent}
use Rattle.session.specs.Ends.{ended_by, WroteLine}
use Rattle.session.specs.Sat.{HasSat, missing, refused, seated}
use Rattle.session.proofs.ServedSessions.{served, whole_uncut}
use Rattle.session.proofs.Cutting.{uncut_at_join}
use Rattle.session.proofs.LinesInHand.{past_none}

get_at_end : (xs : List Entry) (x : Entry) → slice_get (xs ++ x ∷ []) (length xs) ≡ Some x
get_at_end [] x = refl
get_at_end (y ∷ xs) x = get_at_end xs x

front_take : {A : Type 0} (k : ℕ) (f h : List A) → IsPrefix f h → k ≤ length f → take k h ≡ take k f
front_take k f h prefix le = ap (take k) (sym prefix.1) ∙ take-append-le k f prefix.0 le

-- a Join that was accepted in a front was so in the whole
pub joined_longer : (w : World) (f h : List Entry) (place seat reader writer : ℕ) → IsPrefix f h → place < length f → IsSeated w f place seat reader writer → IsSeated w h place seat reader writer
joined_longer w f h place seat reader writer prefix long is = record {
  key = is.key;
  join = prefix_get f h place (Join seat is.key reader writer) prefix is.join;
  free = ap (λ l. is_free (standing_after w l seat)) (front_take place f h prefix (omega arith)) ∙ is.free;
  held = ap (λ l. is_held_by reader writer (standing_after w l seat)) (front_take (suc place) f h prefix (omega arith)) ∙ is.held;
}

-- ---- passes

grew_on : (p r q : PassState Entry World) → Grew p r → Grew r q → Grew p q
grew_on p r q first second = record { front = prefix_trans p.front r.front q.front first.front second.front; number = second.number ∙ first.number }

pub grew_itself : (p : PassState Entry World) → Grew p p
grew_itself p = record { front = prefix_self p.front; number = refl }

pub written_grew : (w : World) (hold : Hold) (s t : PassState Entry World) (wrote : Wrote) (before after : Option (List ℕ)) → HasWritten w hold s t wrote before after → Grew s t
written_grew w hold s t wrote before after is = record { front = is.got.front; number = is.got.number }

module _ (w : World) (seat : ℕ) (key : List ℕ) (joined : Joined) (p r s : PassState Entry World) (turn : TakesSeat w seat key s.number joined p r) where
  abbrev e : Entry
  e = Join seat key p.number s.number

  abbrev place : ℕ
  place = length turn.turn.found

  pub takes_grew : Grew p r
  takes_grew =
      let begins : IsPrefix p.front turn.turn.found = turn.turn.begins in
      record { front = prefix_trans p.front turn.turn.found r.front begins (cond turn.entered (e ∷ []) [], sym turn.turn.front_is); number = turn.number }

  pub heard_grew : (hold : Hold) (q : PassState Entry World) (read : ReadEnd) (gone : Bool) (text rest : Option (List ℕ)) → HasHeard w hold r q read gone text rest → Grew p q
  heard_grew hold q read gone text rest is = grew_on p r q takes_grew (record { front = is.got.front; number = is.got.number })

  pub entered_front : turn.entered ≡ true → r.front ≡ turn.turn.found ++ e ∷ []
  entered_front did = turn.turn.front_is ∙ ap (λ b. turn.turn.found ++ cond b (e ∷ []) []) did

  pub own_there : turn.entered ≡ true → r.own ≡ p.own ++ place ∷ []
  own_there did = turn.turn.own_is ∙ ap (λ b. p.own ++ places place (cond b (e ∷ []) [])) did

  pub join_there : turn.entered ≡ true → slice_get r.front place ≡ Some e
  join_there did = ap (λ l. slice_get l place) (entered_front did) ∙ get_at_end turn.turn.found e

  pub entered_unless : (joined ≡ joins.Memory → ⊥) → turn.entered ≡ true
  entered_unless other = by_bool turn.entered refl
    where
      by_bool : (b : Bool) → turn.entered ≡ b → b ≡ true
      by_bool true e = refl
      by_bool false e = absurd (other (turn.turn.has_run.not e))

  not_entered : joined ≡ joins.Memory → turn.entered ≡ false
  not_entered so = by_bool turn.entered refl
    where
      by_bool : (b : Bool) → turn.entered ≡ b → b ≡ false
      by_bool false e = refl
      by_bool true did = absurd (subst (λ j. IsFollowed w e seat p.number s.number turn.turn.found j r.front) so (turn.turn.has_run.follows did key refl))

  pub sat_memory : (reader : ReaderState) (left before : Option (List ℕ)) (faults : ℕ) → joined ≡ joins.Memory → HasSat w seat key p r s s (bytes_to_come reader left) reader left before before faults faults ends.Memory
  sat_memory reader left before faults so =
      missing (turn.turn.own_is ∙ ap (λ b. p.own ++ places place (cond b (e ∷ []) [])) (not_entered so) ∙ append-nil p.own) refl refl refl refl

  pub sat_refused : (refusal : JoinRefusal) (line : List ℕ) (long : ℕ) (reader : ReaderState) (left before after : Option (List ℕ)) (faults_before faults_after : ℕ) → joined ≡ joins.Refused refusal line long → WroteLine line before after faults_before faults_after
      → HasSat w seat key p r s s (bytes_to_come reader left) reader left before after faults_before faults_after (ends.Refused refusal)
  sat_refused refusal line long reader left before after faults_before faults_after so wrote =
      let did = entered_unless (λ m. cc) in
      let found : take place r.front ≡ turn.turn.found = ap (take place) (entered_front did) ∙ take-append-le place turn.turn.found (e ∷ []) (omega arith) ∙ take_all place turn.turn.found (omega arith) in
      let by : IsRefusedBy (outcome_of (replay w turn.turn.found) e) refusal line = (subst (λ j. IsFollowed w e seat p.number s.number turn.turn.found j r.front) so (turn.turn.has_run.follows did key refl)).0 in
      refused refusal
      (record {
        place = place;
        line = line;
        entered = record { own = own_there did; there = join_there did };
        refused = subst (λ l. IsRefusedBy (outcome_of (replay w l) e) refusal line) (sym found) by;
        wrote = wrote;
      })
      refl refl refl

  module _ (there : ℕ) (reading : Bool) (so : joined ≡ joins.Seated there reading) where
    abbrev hold : Hold
    hold = record { seat = seat; place = there; reader = p.number; writer = s.number }

    did : turn.entered ≡ true
    did = entered_unless (λ m. cc)

    pub taken : IsTaken w hold turn.turn.found reading r.front
    taken = subst (λ j. IsFollowed w e seat p.number s.number turn.turn.found j r.front) so (turn.turn.has_run.follows did key refl)

    pub long : length r.front ≡ suc there
    long = let a = ap length (entered_front did) in let b = length-append turn.turn.found (e ∷ []) in let c = taken.last in omega (arith, a, b, c)

    pub own_here : r.own ≡ p.own ++ there ∷ []
    own_here = own_there did ∙ ap (λ n. p.own ++ n ∷ []) (sym taken.last)

    pub entry_here : slice_get r.front there ≡ Some e
    entry_here = ap (slice_get r.front) taken.last ∙ join_there did

    whole_take : take (suc there) r.front ≡ r.front
    whole_take = take_all (suc there) r.front (omega (arith, long))

    found_take : take there r.front ≡ turn.turn.found
    found_take = ap (λ n. take n r.front) taken.last ∙ ap (take place) (entered_front did) ∙ take-append-le place turn.turn.found (e ∷ []) (omega arith) ∙ take_all place turn.turn.found (omega arith)

    -- both halves ended, which held the seat so
    pub sat_halves : (q t : PassState Entry World) (held : Hold) (read : ReadEnd) (gone : Bool) (wrote : Wrote) (text : Option (List ℕ)) (reader : ReaderState) (left before after : Option (List ℕ)) (faults_before faults_after : ℕ) (ended : Ended) → IsOpening w → held ≡ hold → (gone ≡ true → reading ≡ true) → (read ≢ reads.Spent → reading ≡ true)
        → ended ≡ ended_by read wrote → HasHeard w held r q read gone text (bytes_to_come reader left) → HasWritten w held s t wrote before after → ((stop : Stop) → read ≡ reads.Stopped stop → Stops stop reader left)
        → HasSat w seat key p q s t text reader left before after faults_before faults_after ended
    sat_halves q t held read gone wrote text reader left before after faults_before faults_after ended opening same reads_so unspent_so end held_heard held_written stops =
        let heard = subst (λ x. HasHeard w x r q read gone text (bytes_to_come reader left)) same held_heard in
        let written = subst (λ x. HasWritten w x s t wrote before after) same held_written in
        let front : IsPrefix r.front q.front = heard.got.front in
        let grown = prefix_length r.front q.front front in
        let here : there < length r.front = omega (arith, long) in
        let joined_here : HasJoined w q.front hold = joined_longer w r.front q.front there seat p.number s.number front here taken.seated in
        seated there (record {
          readers = heard.more;
          writers = written.more;
          reader_own = heard.got.own ∙ ap (λ l. l ++ heard.more) own_here;
          writer_own = written.got.own;
          there = prefix_get r.front q.front there e front entry_here;
          joined = joined_here;
          uncut = whole_uncut w hold r q s t read gone wrote ended text (bytes_to_come reader left) before after end heard written;
          served = λ h q_front t_front.
              let whole : IsPrefix r.front h = prefix_trans r.front q.front h front q_front in
              served w h hold r q s t read gone wrote ended text reader left before after opening (joined_longer w r.front h there seat p.number s.number whole here taken.seated)
              (λ g. ap (λ l. is_read w l hold) (front_take (suc there) r.front h whole (omega arith) ∙ whole_take) ∙ sym taken.reads_is ∙ reads_so g)
              heard written end stops
              (λ other uncut. record {
                entry = e;
                there = prefix_get r.front q.front there e front entry_here;
                lawful = ap (λ l. is_spent (seat_at (replay w (l ++ e ∷ [])) seat)) (front_take there r.front q.front front (omega arith) ∙ found_take) ∙ ap (λ l. is_spent (seat_at (replay w l) seat)) (sym (entered_front did)) ∙ taken.unspent (unspent_so other);
              })
              (omega (arith, here, grown)) q_front t_front;
        })

    none_first : (text : Option (List ℕ)) → AreFirst [] text
    none_first None = tt
    none_first (Some text) = (_, refl)

    none_came : (text : Option (List ℕ)) → WhereTold text text (CameBut [] [])
    none_came None = tt
    none_came (Some text) = refl

    -- the Join was the seat's last line
    pub spent_heard : (text : Option (List ℕ)) → reading ≡ false → HasHeard w hold r r reads.Spent false text text
    spent_heard text none = record {
      more = [];
      got = record { front = prefix_self r.front; number = refl; own = sym (append-nil r.own); each = All-nil _ };
      first = none_first text;
      past = past_none text;
      hand = [];
      behind = λ some. absurd (some refl);
      all = λ g c n. none_came text;
      closed = sym taken.reads_is ∙ none;
      kept = λ g. cc;
      cause = (there, Contains-push [] there, ap (λ l. is_spent (seat_at (replay w l) seat)) whole_take ∙ taken.spent none);
      uncut = λ c n. uncut_at_join w turn.turn.found r.front hold key (entered_front did) taken.last;
      cuts = All-nil _;
      unspent = λ other c. absurd (other refl);
    }

    pub sat_spent : (t : PassState Entry World) (held : Hold) (wrote : Wrote) (reader : ReaderState) (left before after : Option (List ℕ)) (faults_before faults_after : ℕ) (ended : Ended) → IsOpening w → held ≡ hold → reading ≡ false → ended ≡ ended_by reads.Spent wrote → HasWritten w held s t wrote before after
        → HasSat w seat key p r s t (bytes_to_come reader left) reader left before after faults_before faults_after ended
    sat_spent t held wrote reader left before after faults_before faults_after ended opening same none end written =
        sat_halves r t held reads.Spent false wrote (bytes_to_come reader left) reader left before after faults_before faults_after ended opening same (λ g. cc) (λ other. absurd (other refl)) end
        (subst (λ x. HasHeard w x r r reads.Spent false (bytes_to_come reader left) (bytes_to_come reader left)) (sym same) (spent_heard (bytes_to_come reader left) none)) written (λ stop is. cc)
