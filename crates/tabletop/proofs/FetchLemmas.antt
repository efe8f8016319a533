-- How a job ends whose files are fetched first.
use Rattle.std.proofs.Common.{◌≡◌, ℕ, List, subst, inl, inr}
use Rattle.std.specs.Prelude.{Option}
use Rattle.tabletop.specs.declared.endings.Ended.{Ended}
use Rattle.tabletop.specs.declared.endings.Ended.TheVariants.{Done, Usage, BadCampaign, ReadFault, WriteFault, Memory, BadLine, TooLarge, DoorFault, Differs}
use Rattle.tabletop.specs.Answered.{VerifyEnds, CompareEnds}
use Rattle.tabletop.specs.Ends.{NotFetched, FileEnds, PairEnds, VerifyFilesEnd, CompareFilesEnd}
use Rattle.tabletop.specs.Fetches.{IsFetched, OneNotFetched}

-- ---- files that were fetched, and files that weren't

pub fetched_file : (D : Type 0) (Ends : List ℕ → Type 0) (ended : Ended) (campaign out after : Option (List ℕ)) (text : List ℕ) → IsFetched campaign text → Ends text → FileEnds D Ends ended campaign out after
fetched_file D Ends ended campaign out after text f ends = inr (record { text = text; told = f.0; small = f.1; ends = ends })

pub unfetched_file : (D : Type 0) (Ends : List ℕ → Type 0) (ended : Ended) (campaign out after : Option (List ℕ)) → NotFetched D ended campaign → after ≡ out → FileEnds D Ends ended campaign out after
unfetched_file D Ends ended campaign out after none same = inl (none, same)

module _ (D : Type 0) (Ends : List ℕ → List ℕ → Type 0) (ended : Ended) (campaign script out after : Option (List ℕ)) where
  pub fetched_pair : (text lines : List ℕ) → IsFetched campaign text → IsFetched script lines → Ends text lines → PairEnds D Ends ended campaign script out after
  fetched_pair text lines f g ends =
      fetched_file D (λ t. FileEnds D (λ l. Ends t l) ended script out after) ended campaign out after text f (fetched_file D (λ l. Ends text l) ended script out after lines g ends)

  pub unfetched_pair : OneNotFetched D ended campaign script → after ≡ out → PairEnds D Ends ended campaign script out after
  unfetched_pair (inl none) same = unfetched_file D (λ t. FileEnds D (λ l. Ends t l) ended script out after) ended campaign out after none same
  unfetched_pair (inr p) same =
      fetched_file D (λ t. FileEnds D (λ l. Ends t l) ended script out after) ended campaign out after p.0 p.1 (unfetched_file D (λ l. Ends p.0 l) ended script out after p.2 same)

-- ---- as what they end the run

pub read_one : (D : Type 0) (ended : Ended) (campaign script : Option (List ℕ)) → OneNotFetched D ended campaign script → ended ≡ ReadFault → D
read_one D ended campaign script h is = by (subst (λ e. OneNotFetched D e campaign script) is h)
  where
    by : OneNotFetched D ReadFault campaign script → D
    by (inl none) = none
    by (inr p) = p.2

pub wrote_one : (D : Type 0) (ended : Ended) (campaign script : Option (List ℕ)) → OneNotFetched D ended campaign script → ended ≡ WriteFault → ⊥
wrote_one D ended campaign script h is = by (subst (λ e. OneNotFetched D e campaign script) is h)
  where
    by : OneNotFetched D WriteFault campaign script → ⊥
    by (inl none) = none
    by (inr p) = p.2

pub read_file : (D : Type 0) (ended : Ended) (campaign : Option (List ℕ)) → NotFetched D ended campaign → ended ≡ ReadFault → D
read_file D ended campaign h is = subst (λ e. NotFetched D e campaign) is h

pub wrote_file : (D : Type 0) (ended : Ended) (campaign : Option (List ℕ)) → NotFetched D ended campaign → ended ≡ WriteFault → ⊥
wrote_file D ended campaign h is = subst (λ e. NotFetched D e campaign) is h

-- ---- a fault of a call is one of the run

module _ (D E : Type 0) (wider : D → E) where
  pub wider_not : (ended : Ended) (campaign : Option (List ℕ)) → NotFetched D ended campaign → NotFetched E ended campaign
  wider_not ReadFault campaign h = wider h
  wider_not Memory campaign h = tt
  wider_not TooLarge campaign h = h
  wider_not Done campaign h = h
  wider_not Usage campaign h = h
  wider_not (BadCampaign breach) campaign h = h
  wider_not WriteFault campaign h = h
  wider_not (BadLine number) campaign h = h
  wider_not DoorFault campaign h = h
  wider_not Differs campaign h = h

  pub wider_file : (Ends Wider : List ℕ → Type 0) (ended : Ended) (campaign out after : Option (List ℕ)) → ((text : List ℕ) → Ends text → Wider text) → FileEnds D Ends ended campaign out after → FileEnds E Wider ended campaign out after
  wider_file Ends Wider ended campaign out after more (inl none) = inl (wider_not ended campaign none.0, none.1)
  wider_file Ends Wider ended campaign out after more (inr f) = inr (record { text = f.text; told = f.told; small = f.small; ends = more f.text f.ends })

  pub wider_pair : (Ends : List ℕ → List ℕ → Type 0) (ended : Ended) (campaign script out after : Option (List ℕ)) → PairEnds D Ends ended campaign script out after → PairEnds E Ends ended campaign script out after
  wider_pair Ends ended campaign script out after h =
      wider_file (λ t. FileEnds D (λ l. Ends t l) ended script out after) (λ t. FileEnds E (λ l. Ends t l) ended script out after) ended campaign out after
      (λ text g. wider_file (λ l. Ends text l) (λ l. Ends text l) ended script out after (λ lines ends. ends) g) h

  -- ---- the first two files were fetched, and then the job was done on the others

  pub verified_files : (ended : Ended) (campaign script transcript later out after : Option (List ℕ)) (p : ℕ) (text lines : List ℕ) → IsFetched campaign text → IsFetched script lines → later ≡ transcript
      → FileEnds D (λ told. VerifyEnds ended text lines p told out after) ended later out after → VerifyFilesEnd E ended campaign script p transcript out after
  verified_files ended campaign script transcript later out after p text lines f g same h =
      fetched_pair E (λ t l. FileEnds E (λ told. VerifyEnds ended t l p told out after) ended transcript out after) ended campaign script out after text lines f g
      (subst (λ x. FileEnds E (λ told. VerifyEnds ended text lines p told out after) ended x out after) same
      (wider_file (λ told. VerifyEnds ended text lines p told out after) (λ told. VerifyEnds ended text lines p told out after) ended later out after (λ told ends. ends) h))

  pub compared_files : (ended : Ended) (campaign script campaign2 script2 later later2 out after : Option (List ℕ)) (p : ℕ) (text lines : List ℕ) → IsFetched campaign text → IsFetched script lines → later ≡ campaign2 → later2 ≡ script2
      → PairEnds D (λ text2 lines2. CompareEnds ended text lines text2 lines2 p out after) ended later later2 out after → CompareFilesEnd E ended campaign script campaign2 script2 p out after
  compared_files ended campaign script campaign2 script2 later later2 out after p text lines f g same same2 h =
      fetched_pair E (λ t l. PairEnds E (λ t2 l2. CompareEnds ended t l t2 l2 p out after) ended campaign2 script2 out after) ended campaign script out after text lines f g
      (subst (λ x. PairEnds E (λ t2 l2. CompareEnds ended text lines t2 l2 p out after) ended x script2 out after) same
      (subst (λ x. PairEnds E (λ t2 l2. CompareEnds ended text lines t2 l2 p out after) ended later x out after) same2
      (wider_pair (λ t2 l2. CompareEnds ended text lines t2 l2 p out after) ended later later2 out after h)))
