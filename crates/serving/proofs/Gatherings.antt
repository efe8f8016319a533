-- Sessions that were gathered, one more and then another.
use Rattle.std.proofs.Common.{◌≡◌, ◌+◌, ℕ, suc, Bool, true, List, [], ◌∷◌, ◌++◌, length, refl, sym, ap, subst, ◌∙◌, arith, append_assoc}
use Rattle.std.specs.Prelude.{Option, Some, None}
use Rattle.std.proofs.lemmas.List.{append-nil}
use Rattle.std.proofs.lemmas.List.Elements.{All-nil, All-push, All-weaker}
use Rattle.std.proofs.Math.Logic.{∥∥₁_elim}
use Rattle.std.specs.Coded.{coded_option}
use base.Stored.{Coded-set}
use Rattle.atomic_table.specs.Seated.{table_id_coded}
use mathlib.Core.List.{IsPrefix}
use Rattle.line_io.specs.Connections.{append_told}
use Rattle.campaign_law.specs.declared.entry.Entry.{Entry}
use Rattle.campaign_law.specs.World.{World}
use Rattle.campaign_core.specs.contracts.campaign.Opened.{the_row}
use Rattle.turn_lock.specs.Pass.{HallState, PassState, IsPassOf}
use Rattle.turn_lock.proofs.Prefixes.{prefix_trans}
use Rattle.session.specs.declared.sitting.Ended.{Ended}
use Rattle.session.specs.declared.service.Sat.{Sat}
use Rattle.serving.specs.declared.sittings.Sitting.{Sitting}
use Rattle.serving.specs.Runs.{HasRun}
use Rattle.serving.specs.declared.guests.Guest.{Guest}
use Rattle.serving.specs.declared.guests.Guest.TheVariants.{Sits}
use Rattle.serving.specs.declared.guests.Word.{Word}
use Rattle.serving.specs.declared.guests.Word.TheVariants as words
use Rattle.serving.specs.Fates.{Fate, busy, sat, Became, AllBecame, HoldsIn, own_of, owns_of, ends_of, word_of, line_of, lines_from, IsPrinted, PrintsMore, GathersOne, HasGathered}
use Rattle.serving.proofs.PrintedLines.{printed_none, prints_on}

-- a run of a session leaves its passes its hall's
pub passes_after : (found hall : HallState World) (p q s t : PassState Entry World) (text rest before after : Option (List ℕ)) (in_before in_after out_before out_after : ℕ) (ended : Ended)
    → ∥ HasRun found p q s t text rest before after in_before in_after out_before out_after ended ∥₁ → found ≡ hall → IsPassOf hall q × IsPassOf hall t
passes_after found hall p q s t text rest before after in_before in_after out_before out_after ended run same =
    ∥∥₁_elim run (hlevel (Coded-set table_id_coded, Coded-set (coded_option the_row.coded))) (λ did. (subst (λ h. IsPassOf h q) same did.reader_is, subst (λ h. IsPassOf h t) same did.writer_is))

append_nothing : {A : Type 0} (told : Option (List A)) → told ≡ append_told told []
append_nothing None = refl
append_nothing (Some all) = ap Some (sym (append-nil all))

module _ {R In Out Task : Type 0} (work_of : Task → Sitting R In Out) (Done : Sitting R In Out → (In × Out) × Sat → Type 0) where
  pub gathers_busy : (guest : Guest Task In Out) (ends : In × Out) (p : PassState Entry World) (ended : Option (List (In × Out))) → Became work_of guest (busy ends) → GathersOne work_of Done guest words.Busy p p ended ended
  gathers_busy guest ends p ended became = record { fate = busy ends; became = became; holds = tt; own = sym (append-nil p.own); ended = append_nothing ended; word_is = refl }

  pub gathers_sat : (guest : Guest Task In Out) (task : Task) (done : (In × Out) × Sat) (p q : PassState Entry World) (ended_before ended_after : Option (List (In × Out))) → guest ≡ Sits task
      → ∥ Done (work_of task) done ∥₁ → IsPrefix done.1.reader.front q.front → IsPrefix done.1.writer.front q.front → q.own ≡ (p.own ++ done.1.reader.own) ++ done.1.writer.own → ended_after ≡ append_told ended_before (done.0 ∷ [])
      → GathersOne work_of Done guest (words.Ended done.1.ended) p q ended_before ended_after
  gathers_sat guest task done p q ended_before ended_after is did reader writer own ended = record {
    fate = sat (work_of task) done;
    became = subst (λ g. Became work_of g (sat (work_of task) done)) (sym is) refl;
    holds = (did, reader, writer);
    own = own ∙ append_assoc p.own done.1.reader.own done.1.writer.own;
    ended = ended;
    word_is = refl;
  }

  pub gathered_none : (p : PassState Entry World) (ended : Option (List (In × Out))) (told : Option (List ℕ)) → HasGathered work_of Done [] p p ended ended true told told
  gathered_none p ended told = record { fates = []; became = tt; each = All-nil (HoldsIn Done p.front); own = sym (append-nil p.own); ended = append_nothing ended; printed = printed_none told }

  became_more : (guests : List (Guest Task In Out)) (fates : List (Fate R In Out)) (guest : Guest Task In Out) (fate : Fate R In Out) → AllBecame work_of guests fates → Became work_of guest fate
      → AllBecame work_of (guests ++ guest ∷ []) (fates ++ fate ∷ [])
  became_more [] [] guest fate all one = (one, tt)
  became_more [] (f ∷ fates) guest fate all one = absurd all
  became_more (g ∷ guests) [] guest fate all one = absurd all
  became_more (g ∷ guests) (f ∷ fates) guest fate all one = (all.0, became_more guests fates guest fate all.1 one)

  pub same_length : (guests : List (Guest Task In Out)) (fates : List (Fate R In Out)) → AllBecame work_of guests fates → length guests ≡ length fates
  same_length [] [] all = refl
  same_length [] (f ∷ fates) all = absurd all
  same_length (g ∷ guests) [] all = absurd all
  same_length (g ∷ guests) (f ∷ fates) all = ap suc (same_length guests fates all.1)

  ends_more : (fates : List (Fate R In Out)) (fate : Fate R In Out) → ends_of (fates ++ fate ∷ []) ≡ ends_of fates ++ ends_of (fate ∷ [])
  ends_more [] fate = refl
  ends_more (busy ends ∷ fates) fate = ends_more fates fate
  ends_more (sat sitting done ∷ fates) fate = ap (λ l. done.0 ∷ l) (ends_more fates fate)

  lines_more : (number : ℕ) (fates : List (Fate R In Out)) (fate : Fate R In Out) → lines_from number (fates ++ fate ∷ []) ≡ lines_from number fates ++ line_of (number + length fates) (word_of fate)
  lines_more number [] fate =
      let same : number ≡ number + 0 = omega arith in
      append-nil (line_of number (word_of fate)) ∙ ap (λ n. line_of n (word_of fate)) same
  lines_more number (f ∷ fates) fate =
      let same : suc number + length fates ≡ number + suc (length fates) = omega arith in
      ap (λ l. line_of number (word_of f) ++ l) (lines_more (suc number) fates fate ∙ ap (λ n. lines_from (suc number) fates ++ line_of n (word_of fate)) same)
      ∙ sym (append_assoc (line_of number (word_of f)) (lines_from (suc number) fates) (line_of (number + suc (length fates)) (word_of fate)))

  owns_more : (fates : List (Fate R In Out)) (fate : Fate R In Out) → owns_of (fates ++ fate ∷ []) ≡ owns_of fates ++ own_of fate
  owns_more [] fate = append-nil (own_of fate)
  owns_more (f ∷ fates) fate = ap (λ l. own_of f ++ l) (owns_more fates fate) ∙ sym (append_assoc (own_of f) (owns_of fates) (own_of fate))

  told_twice : {A : Type 0} (told : Option (List A)) (first next : List A) → append_told (append_told told first) next ≡ append_told told (first ++ next)
  told_twice None first next = refl
  told_twice (Some all) first next = ap Some (append_assoc all first next)

  holds_longer : (G H : List Entry) → IsPrefix G H → (fate : Fate R In Out) → HoldsIn Done G fate → HoldsIn Done H fate
  holds_longer G H longer (busy ends) holds = tt
  holds_longer G H longer (sat sitting done) holds = (holds.0, prefix_trans done.1.reader.front G H holds.1 longer, prefix_trans done.1.writer.front G H holds.2 longer)

  pub gathered_more : (guests : List (Guest Task In Out)) (guest : Guest Task In Out) (word : Word) (number : ℕ) (p q r : PassState Entry World) (e0 e1 e2 : Option (List (In × Out))) (b c : Bool) (x y z : Option (List ℕ))
      → HasGathered work_of Done guests p q e0 e1 b x y → GathersOne work_of Done guest word q r e1 e2 → IsPrefix q.front r.front → number ≡ 1 + length guests → PrintsMore b c (line_of number word) y z
      → HasGathered work_of Done (guests ++ guest ∷ []) p r e0 e2 c x z
  gathered_more guests guest word number p q r e0 e1 e2 b c x y z all one longer counted prints =
      let long = same_length guests all.fates all.became in
      let line : line_of number word ≡ line_of (1 + length all.fates) (word_of one.fate) = ap (λ n. line_of n word) (counted ∙ ap (λ n. 1 + n) long) ∙ ap (line_of (1 + length all.fates)) one.word_is in
      record {
        fates = all.fates ++ one.fate ∷ [];
        became = became_more guests all.fates guest one.fate all.became one.became;
        each = All-push (HoldsIn Done r.front) all.fates one.fate (All-weaker (HoldsIn Done q.front) (HoldsIn Done r.front) (holds_longer q.front r.front longer) all.fates all.each) one.holds;
        own = one.own ∙ ap (λ l. l ++ own_of one.fate) all.own ∙ append_assoc p.own (owns_of all.fates) (own_of one.fate) ∙ ap (λ l. p.own ++ l) (sym (owns_more all.fates one.fate));
        ended = one.ended ∙ ap (λ told. append_told told (ends_of (one.fate ∷ []))) all.ended ∙ told_twice e0 (ends_of all.fates) (ends_of (one.fate ∷ [])) ∙ ap (append_told e0) (sym (ends_more all.fates one.fate));
        printed = subst (λ l. IsPrinted c l x z) (ap (λ l. lines_from 1 all.fates ++ l) line ∙ sym (lines_more 1 all.fates one.fate)) (prints_on b c (lines_from 1 all.fates) (line_of number word) x y z all.printed prints);
      }
