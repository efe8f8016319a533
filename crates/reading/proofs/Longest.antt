-- A reader that looks one byte ahead and reads each word back says exactly where a text leaves the grammar.
use Rattle.std.proofs.Common.{◌≡◌, ℕ, suc, pred, ◌+◌, ◌-◌, ◌<◌, ◌≤◌, List, [], ◌∷◌, ◌++◌, length, take, Some, None, sym, ap, ◌∙◌, append_assoc, append-nil, arith}
use Rattle.std.proofs.lemmas.List.{length-append}
use Rattle.std.proofs.Math.Seq.{take-append_seam, take-append-add}
use Rattle.reading.specs.Reading.{Read, IsLongest}
use Rattle.reading.proofs.Laws.{Fate, Reads}
use Rattle.reading.proofs.Pairs.{same_pair, none_some_pair}

-- two fronts with one rest are one
front_same : (s f r g t : List ℕ) → s ≡ f ++ r → s ≡ g ++ t → r ≡ t → f ≡ g
front_same s f r g t e h k =
    let a : length s ≡ length f + length r = ap length e ∙ length-append f r in
    let b : length s ≡ length g + length t = ap length h ∙ length-append g t in
    let c : length r ≡ length t = ap length k in
    let d : length f ≡ length g = omega arith in
    let p : take (length f) s ≡ f = rw e (take-append_seam f r) in
    let q : take (length g) s ≡ g = rw h (take-append_seam g t) in
    sym p ∙ (ap (λ (n : ℕ). take n s) d ∙ q)

module _ {A : Type 0} (read : ℕ → Read A) (G : List ℕ → A → Type 0)
    (reads : (turns : ℕ) (s : List ℕ) → Reads (read turns) G s)
    (back : (turns : ℕ) (f : List ℕ) (x : A) → G f x → length f < turns → read turns f ≡ (Some x, [])) where
  pub found : (s : List ℕ) (x : A) (turns : ℕ) → read turns s ≡ (Some x, []) → G s x
  found s x turns e =
      let r = reads turns s in
      let k = same_pair r.outcome (Some x) r.rest [] (sym r.is ∙ e) in
      let o = k.0 in let z = k.1 in
      let fate : Fate G r.front (Some x) = rw o at r.fate in
      let whole : s ≡ r.front = r.split ∙ (ap (λ (w : List ℕ). r.front ++ w) z ∙ append-nil r.front) in
      rw whole fate

  pub off : (s r : List ℕ) → ((turns : ℕ) → length s < turns → read turns s ≡ (None, r)) → (x : A) → G s x → ⊥
  off s r h x g = none_some_pair x [] r (sym (h (suc (length s)) (omega arith)) ∙ back (suc (length s)) s x g (omega arith))

  -- at a byte that no reader takes, no word goes on
  no_byte : (s f : List ℕ) (b : ℕ) (t z : List ℕ) (x : A) → s ≡ f ++ (b ∷ t) → ((turns : ℕ) → length s < turns → read turns s ≡ (None, b ∷ t)) → G (f ++ (b ∷ z)) x → ⊥
  no_byte s f b t z x e h g =
      let n = suc (length s + length (f ++ (b ∷ z))) in
      let r = reads n s in
      let k = same_pair r.outcome None r.rest (b ∷ t) (sym r.is ∙ h n (omega arith)) in
      let one = r.one b t z k.1 in
      let same : r.front ≡ f = front_same s r.front r.rest f (b ∷ t) r.split e k.1 in
      let none = k.0 in
      let stays : read n (f ++ (b ∷ z)) ≡ (None, b ∷ z) = rw (same, none) at one in
      none_some_pair x [] (b ∷ z) (sym stays ∙ back n (f ++ (b ∷ z)) x g (omega arith))

  not_longer : (s f r : List ℕ) (m : ℕ) (z : List ℕ) (x : A) → s ≡ f ++ r → suc m ≤ length r → ((turns : ℕ) → length s < turns → read turns s ≡ (None, r)) → G ((f ++ take (suc m) r) ++ z) x → ⊥
  not_longer s f [] m z x e le h g = absurd (omega arith)
  not_longer s f (b ∷ t) m z x e le h g = no_byte s f b t (take m t ++ z) x e h (let k = append_assoc f (b ∷ take m t) z in rw k at g)

  pub longest : (s r : List ℕ) → ((turns : ℕ) → length s < turns → read turns s ≡ (None, r)) → (length r ≤ length s) × IsLongest G s (length s - length r)
  longest s r h =
      let n = suc (length s) in
      let q = reads n s in
      let k = same_pair q.outcome None q.rest r (sym q.is ∙ h n (omega arith)) in
      let f = q.front in
      let none = k.0 in
      let rest = k.1 in
      let e : s ≡ f ++ r = q.split ∙ ap (λ (w : List ℕ). f ++ w) rest in
      let fate : Fate G f None = rw none at q.fate in
      let len : length s ≡ length f + length r = ap length e ∙ length-append f r in
      let at-is : length s - length r ≡ length f = omega arith in
      let front : take (length f) s ≡ f = ap (λ (w : List ℕ). take (length f) w) e ∙ take-append_seam f r in (
        omega arith,
        record {
          within = omega arith;
          begins = rw (at-is, front) fate;
          no_more = λ m lt le (z, x, g).
              let d = m - length f in
              let m-is : m ≡ length f + suc (pred d) = omega arith in
              let cut : take m s ≡ f ++ take (suc (pred d)) r = ap (λ (w : List ℕ). take m w) e ∙ (ap (λ (j : ℕ). take j (f ++ r)) m-is ∙ take-append-add f r (suc (pred d))) in
              not_longer s f r (pred d) z x e (omega arith) h (rw cut at g);
        },
      )
