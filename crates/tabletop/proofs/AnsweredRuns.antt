-- `verify` and `compare` of what is there end with an answer, where nothing fails and memory isn't wanting.
use Rattle.std.proofs.Common.{◌≡◌, ◌≤◌, ℕ, List, length, Some, refl, sym, ◌∙◌, subst, arith, inl, inr}
use Rattle.std.specs.Prelude.{Option, IfSome}
use Rattle.command_words.specs.Words.{Asked, Verify, Compare}
use Rattle.tabletop.specs.declared.endings.Ended.{Ended}
use Rattle.tabletop.specs.declared.endings.Ended.TheVariants.{Done, Usage, BadCampaign, ReadFault, WriteFault, Memory, BadLine, TooLarge, DoorFault, Differs}
use Rattle.tabletop.specs.Endings.{status_of}
use Rattle.tabletop.specs.Answered.{VerifyEnds, CompareEnds}
use Rattle.tabletop.specs.Ends.{campaign_limit, NotFetched, FileEnds, PairEnds, JobEnds, HasEnded}
use Rattle.tabletop.specs.Fetches.{IsThere, IsPlayableAt}
use Rattle.tabletop.proofs.AnswerLemmas.{IsAnswered, verify_done, compare_done}

-- ---- files that are there

not_fetched : (D : Type 0) (ended : Ended) (campaign : List ℕ) → length campaign ≤ campaign_limit → ¬ D → NotFetched D ended (Some campaign) → IsAnswered (status_of ended)
not_fetched D Memory campaign small no_desk h = inr (inr refl)
not_fetched D ReadFault campaign small no_desk h = absurd (no_desk h)
not_fetched D TooLarge campaign small no_desk h = absurd (omega (arith, h, small))
not_fetched D Done campaign small no_desk h = absurd h
not_fetched D Usage campaign small no_desk h = absurd h
not_fetched D (BadCampaign breach) campaign small no_desk h = absurd h
not_fetched D WriteFault campaign small no_desk h = absurd h
not_fetched D (BadLine number) campaign small no_desk h = absurd h
not_fetched D DoorFault campaign small no_desk h = absurd h
not_fetched D Differs campaign small no_desk h = absurd h

module _ (D : Type 0) (texts : List ℕ → Option (List ℕ)) (ended : Ended) (out after : Option (List ℕ)) (no_desk : ¬ D) where
  file_answered : (Ends : List ℕ → Type 0) (name text : List ℕ) → IsThere texts name text → (Ends text → IsAnswered (status_of ended)) → FileEnds D Ends ended (texts name) out after → IsAnswered (status_of ended)
  file_answered Ends name text there ends (inl none) = not_fetched D ended text there.small no_desk (subst (NotFetched D ended) there.told none.0)
  file_answered Ends name text there ends (inr f) =
      let same : f.text ≡ text = subst (λ c. IfSome c (λ told. f.text ≡ told)) there.told f.told in
      ends (subst Ends same f.ends)

  pair_answered : (Ends : List ℕ → List ℕ → Type 0) (file script : List ℕ) (at : IsPlayableAt texts file script) → (Ends at.campaign at.lines → IsAnswered (status_of ended)) → PairEnds D Ends ended (texts file) (texts script) out after → IsAnswered (status_of ended)
  pair_answered Ends file script at ends h =
      file_answered (λ t. FileEnds D (λ l. Ends t l) ended (texts script) out after) file at.campaign at.campaign_there
      (λ h. file_answered (λ l. Ends at.campaign l) script at.lines at.lines_there ends h) h

-- ---- the whole run

module _ (status : ℕ) (job : Option Asked) (texts : List ℕ → Option (List ℕ)) (script left out after : Option (List ℕ)) (D S OutFailed : Type 0) (run : HasEnded status job texts script left out after D S OutFailed) (no_desk : ¬ D) (no_write : ¬ (status ≡ 5)) where
  ends_as : (asked : Asked) → job ≡ Some asked → JobEnds D S run.ended (Some asked) texts script left out run.before_line
  ends_as asked is = subst (λ j. JobEnds D S run.ended j texts script left out run.before_line) is run.ends

  pub verify_answers : (file lines transcript told : List ℕ) (p : ℕ) → job ≡ Some (Verify file lines p transcript) → IsPlayableAt texts file lines → IsThere texts transcript told → IsAnswered status
  verify_answers file lines transcript told p is at there =
      let e : Ended = run.ended in
      let b : Option (List ℕ) = run.before_line in
      subst IsAnswered (sym run.status_is)
      (pair_answered D texts e out b no_desk (λ t l. FileEnds D (λ told. VerifyEnds e t l p told out b) e (texts transcript) out b) file lines at
      (λ h. file_answered D texts e out b no_desk (λ told. VerifyEnds e at.campaign at.lines p told out b) transcript told there
      (λ v. verify_done at.campaign at.lines p told out b e at.playable (λ s. no_write (run.status_is ∙ s)) v) h)
      (ends_as (Verify file lines p transcript) is))

  pub compare_answers : (file lines file2 lines2 : List ℕ) (p : ℕ) → job ≡ Some (Compare file lines file2 lines2 p) → IsPlayableAt texts file lines → IsPlayableAt texts file2 lines2 → IsAnswered status
  compare_answers file lines file2 lines2 p is at at2 =
      let e : Ended = run.ended in
      let b : Option (List ℕ) = run.before_line in
      subst IsAnswered (sym run.status_is)
      (pair_answered D texts e out b no_desk (λ t l. PairEnds D (λ t2 l2. CompareEnds e t l t2 l2 p out b) e (texts file2) (texts lines2) out b) file lines at
      (λ h. pair_answered D texts e out b no_desk (λ t2 l2. CompareEnds e at.campaign at.lines t2 l2 p out b) file2 lines2 at2
      (λ v. compare_done at.campaign at.lines at2.campaign at2.lines p out b e at.playable at2.playable (λ s. no_write (run.status_is ∙ s)) v) h)
      (ends_as (Compare file lines file2 lines2 p) is))
