-- A session tells of no entry before it is safe.
use Rattle.std.proofs.Common.{◌≡◌, ℕ, suc, ◌≤◌, ◌⊎◌, Bool, false, List, [], ◌∷◌, ◌++◌, length, take, refl, sym, ◌∙◌, ap, subst, arith, length-append, inl, inr}
use Rattle.std.specs.Prelude.{Option, None, Some, All}
use Rattle.std.specs.Io.KnownBytes.{append_known}
use Rattle.std.proofs.lemmas.List.{append-nil, take-append-le, take_all}
use mathlib.Core.List.{IsPrefix}
use Rattle.seats.specs.declared.seat_state.JoinRefusal.{JoinRefusal}
use Rattle.campaign_law.specs.declared.entry.Entry.{Entry}
use Rattle.campaign_law.specs.declared.entry.Entry.TheVariants.{Join}
use Rattle.campaign_law.specs.Law.{bytes_of}
use Rattle.campaign_law.specs.World.{World, outcome_of, replay}
use Rattle.turn_lock.specs.Pass.{PassState}
use Rattle.turn_lock.proofs.Prefixes.{prefix_get, prefix_trans}
use Rattle.session.specs.declared.hold.Hold.{Hold}
use Rattle.session.specs.declared.joining.Joined.{Joined}
use Rattle.session.specs.declared.joining.Joined.TheVariants as joins
use Rattle.session.specs.declared.hearing.ReadEnd.{ReadEnd}
use Rattle.session.specs.declared.hearing.ReadEnd.TheVariants as reads
use Rattle.session.specs.Held.{lines_of}
use Rattle.session.specs.Own.{StandsAt}
use Rattle.session.specs.Heard.{IsReaders, HasHeard}
use Rattle.session.specs.JoinTurn.{TakesSeat}
use Rattle.session.specs.Joined.{IsRefusedBy, IsFollowed}
use Rattle.session.specs.Served.{IsUndisturbed}
use Rattle.session.specs.Safely.{TellsSafely, WritesSafely, SaysSafely, silent, strange, refused, seated}
use Rattle.session.proofs.Alone.{joined_in_front, stands_longer}
use Rattle.session.proofs.ServedSessions.{alone_of}
use Rattle.session.proofs.SatSessions.{joined_longer, entered_front, own_there, join_there, entered_unless, taken, long, own_here, entry_here, spent_heard}

front_take : {A : Type 0} (k : ℕ) (f h : List A) → IsPrefix f h → k ≤ length f → take k h ≡ take k f
front_take k f h prefix le = ap (take k) (sym prefix.1) ∙ take-append-le k f prefix.0 le

append_none : (before : Option (List ℕ)) (text : List ℕ) → text ≡ [] → append_known before text ≡ before
append_none None text none = refl
append_none (Some bytes) text none = ap (λ l. Some (bytes ++ l)) none ∙ ap Some (append-nil bytes)

-- a line that tells of no entry
pub says_strange : (Safe : ℕ → Type 0) (w : World) (p s : PassState Entry World) (before after : Option (List ℕ)) → (after ≡ before) ⊎ Safe 0 → SaysSafely Safe w p p s s before after
says_strange Safe w p s before after (inl none) = silent none
says_strange Safe w p s before after (inr safe) = strange refl refl safe

-- what was safe stays so, and nothing more was written
pub says_still : (Safe Safer : ℕ → Type 0) (w : World) (p q s t : PassState Entry World) (before mid after : Option (List ℕ)) → ((n : ℕ) → Safe n → Safer n) → after ≡ mid → SaysSafely Safe w p q s t before mid → SaysSafely Safer w p q s t before after
says_still Safe Safer w p q s t before mid after still same (silent none) = silent (same ∙ none)
says_still Safe Safer w p q s t before mid after still same (strange same_q same_t safe) = strange same_q same_t (still 0 safe)
says_still Safe Safer w p q s t before mid after still same (refused seat place key refusal entered cause same_t safe) = refused seat place key refusal entered cause same_t (still (suc place) safe)
says_still Safe Safer w p q s t before mid after still same (seated seat place key so) =
    seated seat place key (record {
      readers = so.readers;
      writers = so.writers;
      reader_own = so.reader_own;
      writer_own = so.writer_own;
      there = so.there;
      n = so.n;
      safe = still so.n so.safe;
      within = so.within;
      output = so.output;
      written = same ∙ so.written;
      front = so.front;
    })

-- both pieces of a line
pub safe_pieces : (Safe Safer : ℕ → Type 0) (long : ℕ) (before mid after : Option (List ℕ)) → (mid ≡ before) ⊎ Safe long → ((n : ℕ) → Safe n → Safer n) → (after ≡ mid) ⊎ Safer long → (after ≡ before) ⊎ Safer long
safe_pieces Safe Safer told before mid after first still (inr safe) = inr safe
safe_pieces Safe Safer told before mid after (inr safe) still (inl none) = inr (still told safe)
safe_pieces Safe Safer told before mid after (inl none) still (inl same) = inl (same ∙ none)

module _ (Safe : ℕ → Type 0) (w : World) (seat : ℕ) (key : List ℕ) (joined : Joined) (p r s : PassState Entry World) (turn : TakesSeat w seat key s.number joined p r) (before after : Option (List ℕ)) where
  abbrev e : Entry
  e = Join seat key p.number s.number

  abbrev place : ℕ
  place = length turn.turn.found

  -- the line of a refusal
  pub says_refused : (refusal : JoinRefusal) (line : List ℕ) (told : ℕ) → joined ≡ joins.Refused refusal line told → (after ≡ before) ⊎ Safe told → SaysSafely Safe w p r s s before after
  says_refused refusal line told so (inl none) = silent none
  says_refused refusal line told so (inr safe) =
      let did = entered_unless w seat key joined p r s turn (λ m. cc) in
      let front : r.front ≡ turn.turn.found ++ e ∷ [] = entered_front w seat key joined p r s turn did in
      let found : take place r.front ≡ turn.turn.found = ap (take place) front ∙ take-append-le place turn.turn.found (e ∷ []) (omega arith) ∙ take_all place turn.turn.found (omega arith) in
      let by : IsRefusedBy (outcome_of (replay w turn.turn.found) e) refusal line × (told ≡ length r.front) = subst (λ j. IsFollowed w e seat p.number s.number turn.turn.found j r.front) so (turn.turn.has_run.follows did key refl) in
      let many = length-append turn.turn.found (e ∷ []) in
      let behind : told ≡ suc place = by.1 ∙ ap length front ∙ omega (arith, many) in
      refused seat place key refusal
      (record { own = own_there w seat key joined p r s turn did; there = join_there w seat key joined p r s turn did })
      (ap (λ l. (outcome_of (replay w l) e).refusal) found ∙ by.0.cause)
      refl (subst Safe behind safe)

  module _ (there : ℕ) (reading : Bool) (so : joined ≡ joins.Seated there reading) where
    abbrev hold : Hold
    hold = record { seat = seat; place = there; reader = p.number; writer = s.number }

    -- both halves of an accepted session
    pub says_seated : (q t : PassState Entry World) (held : Hold) (read : ReadEnd) (gone : Bool) (text rest : Option (List ℕ)) → held ≡ hold → HasHeard w held r q read gone text rest → WritesSafely Safe w held s t before after → SaysSafely Safe w p q s t before after
    says_seated q t held read gone text rest same held_heard held_writes = by_told writes.told
      where
        heard : HasHeard w hold r q read gone text rest
        heard = subst (λ x. HasHeard w x r q read gone text rest) same held_heard

        writes : WritesSafely Safe w hold s t before after
        writes = subst (λ x. WritesSafely Safe w x s t before after) same held_writes

        front : IsPrefix r.front q.front
        front = heard.got.front

        told_front : (tells : TellsSafely Safe w t.front hold writes.more writes.text) (h : List Entry) → IsPrefix q.front h → IsPrefix t.front h → IsUndisturbed w h (heard.more ++ writes.more) hold → IsPrefix writes.text (bytes_of (lines_of w (take tells.n h) hold))
        told_front tells h q_front t_front quiet =
            let past = tells.past in
            let within = tells.within in
            let many = long w seat key joined p r s turn there reading so in
            let joined_there = joined_longer w r.front h there seat p.number s.number (prefix_trans r.front q.front h front q_front) (omega (arith, many)) (taken w seat key joined p r s turn there reading so).seated in
            let readers : All (StandsAt (IsReaders w hold) h) heard.more = stands_longer (IsReaders w hold) q.front h heard.more q_front heard.got.each in
            subst (λ l. IsPrefix writes.text (bytes_of (lines_of w l hold))) (sym (front_take tells.n t.front h t_front within))
            (tells.front (joined_in_front w t.front h hold t_front (omega (arith, past, within)) joined_there) (alone_of w t.front h heard.more writes.more hold t_front readers quiet))

        by_told : (writes.text ≡ []) ⊎ TellsSafely Safe w t.front hold writes.more writes.text → SaysSafely Safe w p q s t before after
        by_told (inl none) = silent (writes.written ∙ append_none before writes.text none)
        by_told (inr tells) =
            seated seat there key (record {
              readers = heard.more;
              writers = writes.more;
              reader_own = heard.got.own ∙ ap (λ l. l ++ heard.more) (own_here w seat key joined p r s turn there reading so);
              writer_own = writes.own;
              there = prefix_get r.front q.front there e front (entry_here w seat key joined p r s turn there reading so);
              n = tells.n;
              safe = tells.safe;
              within = tells.within;
              output = writes.text;
              written = writes.written;
              front = told_front tells;
            })

    -- the Join was the seat's last line, so only the writing half ran
    pub says_spent : (t : PassState Entry World) (held : Hold) (text : Option (List ℕ)) → held ≡ hold → reading ≡ false → WritesSafely Safe w held s t before after → SaysSafely Safe w p r s t before after
    says_spent t held text same none writes =
        says_seated r t held reads.Spent false text text same (subst (λ x. HasHeard w x r r reads.Spent false text text) (sym same) (spent_heard w seat key joined p r s turn there reading so text none)) writes
