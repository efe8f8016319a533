-- An evening as its beginning has it: by the campaign's text, its origin and its history, and by the disk's moment.
use Rattle.std.proofs.Common.{◌≡◌, ◌⊎◌, inl, inr, ℕ, Bool, List, subst}
use Rattle.std.specs.Prelude.{Option}
use Rattle.campaign_law.specs.declared.entry.Entry.{Entry}
use Rattle.campaign_law.specs.World.{World}
use Rattle.evening_log.specs.Keeping.{LogOrigin}
use Rattle.session.specs.declared.service.Sat.{Sat}
use Rattle.serving.specs.declared.sittings.Sitting.{Sitting}
use Rattle.log_serving.specs.declared.answers.LogServed.{LogServed}
use Rattle.log_serving.specs.Evening.{HasStayed, IsBegun, LeavesPartSince, ServesEvening, ServesNobody}

module _ {R In Out D : Type 0} (Does : Sitting R In Out → (In × Out) × Sat → Type 0) (written : Out → Option (List ℕ)) (Tells : Type 0)
    (may_leave : D → List ℕ → Type 0) (left_since : D → ℕ → List ℕ → Type 0) (served : LogServed) (count : ℕ) (end : Bool) (out after : Option (List ℕ)) (new : D) where
  nobody_since : (text : List ℕ) (recovered : ℕ) (before : List Entry) (start other : ℕ) → (Tells → start ≡ other)
      → ServesNobody Tells left_since served text recovered before out after start new → ServesNobody Tells left_since served text recovered before out after other new
  nobody_since text recovered before start other same s = record {
    cause = s.cause;
    unwritten = s.unwritten;
    kept = λ told. subst (λ (t : ℕ). HasStayed left_since text recovered before t new) (same told) (s.kept told);
  }

  evening_since : (text : List ℕ) (recovered : ℕ) (origin : World) (before : List Entry) (start other : ℕ) → (Tells → start ≡ other)
      → ServesEvening Does written Tells may_leave left_since served text recovered count end origin before out after start new
      → ServesEvening Does written Tells may_leave left_since served text recovered count end origin before out after other new
  evening_since text recovered origin before start other same s = record {
    hall = s.hall;
    origin_is = s.origin_is;
    p = s.p;
    q = s.q;
    front_is = s.front_is;
    low = s.low;
    high = s.high;
    early = s.early;
    late = s.late;
    out_is = s.out_is;
    told = s.told;
    serves = s.serves;
    ends = s.ends;
    history = s.history;
    longer = s.longer;
    kept = λ told. subst (λ (t : ℕ). LeavesPartSince left_since text recovered s.history t new) (same told) (s.kept told);
    safe = s.safe;
  }

  -- of an evening that began so
  abbrev Comes : (text : List ℕ) (recovered : ℕ) (origin : World) (before : List Entry) (start : ℕ) → Type 0
  Comes text recovered origin before start =
      ServesNobody Tells left_since served text recovered before out after start new
      ⊎ ServesEvening Does written Tells may_leave left_since served text recovered count end origin before out after start new

  since : (text : List ℕ) (recovered : ℕ) (origin : World) (before : List Entry) (start other : ℕ) → (Tells → start ≡ other) → Comes text recovered origin before start → Comes text recovered origin before other
  since text recovered origin before start other same (inl nobody) = inl (nobody_since text recovered before start other same nobody)
  since text recovered origin before start other same (inr evening) = inr (evening_since text recovered origin before start other same evening)

  pub begun : (moment : D → ℕ) (recovered : ℕ) (text : List ℕ) (disk : D) (log : LogOrigin World) (origin opened : World) (before front : List Entry)
      → IsBegun Tells moment recovered text disk log → opened ≡ origin → front ≡ before
      → (ServesNobody Tells left_since served log.text log.recovered front out after log.start new
      ⊎ ServesEvening Does written Tells may_leave left_since served log.text log.recovered count end opened front out after log.start new)
      → (ServesNobody Tells left_since served text recovered before out after (moment disk) new
      ⊎ ServesEvening Does written Tells may_leave left_since served text recovered count end origin before out after (moment disk) new)
  begun moment recovered text disk log origin opened before front is origin_is front_is comes =
      since text recovered origin before log.start (moment disk) is.start_is
      (subst (λ (t : List ℕ). Comes t recovered origin before log.start) is.text_is
      (subst (λ (n : ℕ). Comes log.text n origin before log.start) is.recovered_is
      (subst (λ (w : World). Comes log.text log.recovered w before log.start) origin_is
      (subst (λ (es : List Entry). Comes log.text log.recovered opened es log.start) front_is comes))))
