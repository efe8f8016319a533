-- Dice as they are read, against the grammar's.
use Rattle.std.proofs.Common.{◌≡◌, ℕ, zero, suc, Bool, true, false, ◌||◌, cond, List, [], ◌∷◌, ◌++◌, Option, Some, None, refl, sym, ap, append-nil}
use Rattle.std.specs.Prelude.{nat_eq}
use Rattle.dice_parse.specs.declared.parts.Tail.{Tail}
use Rattle.dice_parse.specs.declared.parts.Tail.TheVariants.{Keep, Lose, Succeed}
use Rattle.dice_parse.specs.declared.parts.Group.{Group}
use Rattle.dice_parse.specs.declared.parts.Part.{Part}
use Rattle.dice_parse.specs.declared.parts.Part.TheVariants.{Group as AGroup, Number as ANumber}
use Rattle.dice_parse.specs.declared.parts.Term.{Term}
use Rattle.reading.specs.Reading.{done, bind, on_head, item}
use Rattle.dice_parse.specs.Grammar.{IsNum, IsCount, IsExplode, IsAgain, IsTail, IsDie, IsPart, AreMore, IsDice, letter, sign}
use Rattle.dice_parse.specs.Readers.{num_at, explode_at, again_at, is_kind, kind_of, tail_at, die_at, group_at, part_at, is_sign, ended, more_at, dice_at}
use Rattle.reading.proofs.Laws.{Reads, Sequence, reads_done, reads_bind, reads_as, reads_item, reads_head, IsItem, SomeItem}
use Rattle.reading.proofs.Pairs.{eq_means}
use Rattle.reading.proofs.Combine.{IsNothing, reads_nothing, only, Wrapped, reads_wrapped, Then, reads_then}
use Rattle.reading.specs.Number.{is_digit}
use Rattle.reading.proofs.Number.{reads_number, number_zero}

explode_joins : Sequence (IsItem (nat_eq 101)) (λ _. IsNothing true) IsExplode
explode_joins = record {
  then = λ a b x y g h. let e = g.1 in let n = h.0 in let v = h.1 in let k : x ≡ 101 = eq_means 101 x g.0 in rw (e, n, v, k) refl;
  ends = λ a x g. ([], true, (refl, refl));
}

pub reads_explode : (s : List ℕ) → Reads explode_at IsExplode s
unfolding explode_at
reads_explode s = reads_head (nat_eq 101) (bind (item (nat_eq 101)) (λ _. done true)) (done false) IsExplode s
    (λ b t e. reads_bind (item (nat_eq 101)) (λ _. done true) (IsItem (nat_eq 101)) (λ _. IsNothing true) IsExplode explode_joins (b ∷ t) (reads_item (nat_eq 101) (only 101 refl) (b ∷ t)) (λ x. reads_nothing true _))
    (λ t. reads_done IsExplode false t refl)

-- a number behind a letter
again_joins : Sequence (IsItem (nat_eq 114)) (λ _. Wrapped Some IsNum) IsAgain
again_joins = record {
  then = λ a b x y g h. let v = h.2 in let k : x ≡ 114 = eq_means 114 x g.0 in let e = g.1 in rw v (b, rw (e, k) refl, h.1);
  ends = λ a x g. (48 ∷ [], Some 0, (0, number_zero 8, refl));
}

pub reads_again : (s : List ℕ) → Reads again_at IsAgain s
unfolding again_at
reads_again s = reads_head (nat_eq 114) (bind (item (nat_eq 114)) (λ _. bind num_at (λ n. done (Some n)))) (done None) IsAgain s
    (λ b t e. reads_bind (item (nat_eq 114)) (λ _. bind num_at (λ n. done (Some n))) (IsItem (nat_eq 114)) (λ _. Wrapped Some IsNum) IsAgain again_joins (b ∷ t) (reads_item (nat_eq 114) (only 114 refl) (b ∷ t)) (λ x. reads_wrapped Some num_at IsNum _ (reads_number 8 _)))
    (λ t. reads_done IsAgain None t refl)

kind_by : (b : ℕ) (k l : Bool) → nat_eq 107 b ≡ k → nat_eq 100 b ≡ l → k || (l || nat_eq 115 b) ≡ true → letter (cond k Keep (cond l Lose Succeed)) ≡ b
kind_by b true l e f h = sym (eq_means 107 b e)
kind_by b false true e f h = sym (eq_means 100 b f)
kind_by b false false e f h = sym (eq_means 115 b h)

kind_letter : (b : ℕ) → is_kind b ≡ true → letter (kind_of b) ≡ b
kind_letter b h = kind_by b (nat_eq 107 b) (nat_eq 100 b) refl refl h

tail_joins : Sequence (IsItem is_kind) (λ b. Wrapped (λ n. Some (kind_of b, n)) IsNum) IsTail
tail_joins = record {
  then = λ a b x y g h. let v = h.2 in let e = g.1 in let k = kind_letter x g.0 in rw v (b, rw (e, k) refl, h.1);
  ends = λ a x g. (48 ∷ [], Some (kind_of x, 0), (0, number_zero 8, refl));
}

kinds : SomeItem is_kind
kinds = record { byte = 107; meets = refl }

pub reads_tail : (s : List ℕ) → Reads tail_at IsTail s
unfolding tail_at
reads_tail s = reads_head is_kind (bind (item is_kind) (λ b. bind num_at (λ n. done (Some (kind_of b, n))))) (done None) IsTail s
    (λ b t e. reads_bind (item is_kind) (λ c. bind num_at (λ n. done (Some (kind_of c, n)))) (IsItem is_kind) (λ c. Wrapped (λ n. Some (kind_of c, n)) IsNum) IsTail tail_joins (b ∷ t) (reads_item is_kind kinds (b ∷ t)) (λ c. reads_wrapped (λ n. Some (kind_of c, n)) num_at IsNum _ (reads_number 8 _)))
    (λ t. reads_done IsTail None t refl)

abbrev pub die_of : ℕ → ℕ → Bool → Option ℕ → Option (Tail × ℕ) → Group
die_of count sides explode again tail = record { count = count; sides = sides; explode = explode; again = again; tail = tail }

-- with the count that stood before the d
abbrev pub IsDieOf : ℕ → List ℕ → Group → Type 0
IsDieOf count s g = IsDie s g × (g.count ≡ count)

abbrev pub AfterAgain : ℕ → ℕ → Bool → Option ℕ → List ℕ → Group → Type 0
AfterAgain count sides explode again = Wrapped (die_of count sides explode again) IsTail

abbrev pub AfterExplode : ℕ → ℕ → Bool → List ℕ → Group → Type 0
AfterExplode count sides explode = Then IsAgain (AfterAgain count sides explode)

abbrev pub AfterSides : ℕ → ℕ → List ℕ → Group → Type 0
AfterSides count sides = Then IsExplode (AfterExplode count sides)

abbrev pub WholeDie : ℕ → List ℕ → Group → Type 0
WholeDie count = Then IsNum (AfterSides count)

end-again : (count sides : ℕ) (e : Bool) (a : Option ℕ) → (b : List ℕ) × (y : Group) × AfterAgain count sides e a b y
end-again count sides e a = ([], die_of count sides e a None, (None, refl, refl))

end-explode : (count sides : ℕ) (e : Bool) → (b : List ℕ) × (y : Group) × AfterExplode count sides e b y
end-explode count sides e = ([], die_of count sides e None None, ([], [], None, refl, refl, (None, refl, refl)))

end-sides : (count sides : ℕ) → (b : List ℕ) × (y : Group) × AfterSides count sides b y
end-sides count sides = ([], die_of count sides false None None, ([], [], false, refl, refl, ([], [], None, refl, refl, (None, refl, refl))))

pub whole_die : (count : ℕ) (s : List ℕ) (g : Group) → WholeDie count s g → IsDieOf count s g
whole_die count s g (sides, r0, n, e0, h0, (ex, r1, x, e1, h1, (ag, tl, a, e2, h2, (t, h3, v)))) =
    let e : s ≡ sides ++ (ex ++ (ag ++ tl)) = rw (← e2, ← e1) e0 in
    rw v (record { sides = sides; explode = ex; again = ag; tail = tl; parts = e; sides-is = h0; explode-is = h1; again-is = h2; tail-is = h3 }, refl)

pub reads_die : (count : ℕ) (s : List ℕ) → Reads (die_at count) (IsDieOf count) s
unfolding die_at
reads_die count s = reads_as (die_at count) (WholeDie count) (IsDieOf count) s (whole_die count)
    (reads_then num_at _ IsNum (AfterSides count) s (end-sides count) (reads_number 8 s)
    (λ sides r. reads_then explode_at _ IsExplode (AfterExplode count sides) r (end-explode count sides) (reads_explode r)
    (λ e q. reads_then again_at _ IsAgain (AfterAgain count sides e) q (end-again count sides e) (reads_again q)
    (λ a z. reads_wrapped (die_of count sides e a) tail_at IsTail z (reads_tail z)))))

-- the d and what stands behind it
abbrev pub IsRest : ℕ → List ℕ → Group → Type 0
IsRest count s g = (die : List ℕ) × (s ≡ 100 ∷ die) × IsDieOf count die g

least_die : (count : ℕ) → IsDieOf count (48 ∷ []) (die_of count 0 false None None)
least_die count = (record { sides = 48 ∷ []; explode = []; again = []; tail = []; parts = refl; sides-is = number_zero 8; explode-is = refl; again-is = refl; tail-is = refl }, refl)

rest_joins : (count : ℕ) → Sequence (IsItem (nat_eq 100)) (λ _. IsDieOf count) (IsRest count)
rest_joins count = record {
  then = λ a b x y g h. let k : x ≡ 100 = eq_means 100 x g.0 in let e = g.1 in (b, rw (e, k) refl, h);
  ends = λ a x g. (48 ∷ [], die_of count 0 false None None, least_die count);
}

pub reads_group : (count : ℕ) (s : List ℕ) → Reads (group_at count) (IsRest count) s
unfolding group_at
reads_group count s = reads_bind (item (nat_eq 100)) (λ _. die_at count) (IsItem (nat_eq 100)) (λ _. IsDieOf count) (IsRest count) (rest_joins count) s
    (reads_item (nat_eq 100) (only 100 refl) s) (λ x. reads_die count _)

-- what may follow a number
abbrev pub AfterNumber : ℕ → List ℕ → Part → Type 0
AfterNumber n s (AGroup g) = IsRest n s g
AfterNumber n s (ANumber m) = (s ≡ []) × (m ≡ n)

number_counts : (s : List ℕ) (n : ℕ) → IsNum s n → IsCount s n
number_counts [] n h = absurd h
number_counts (b ∷ s) n h = h

number_then : (a b : List ℕ) (n : ℕ) (y : Part) → IsNum a n → AfterNumber n b y → IsPart (a ++ b) y
number_then a b n (AGroup g) h (die, e, (d, c)) = record { count = a; die = die; parts = rw e refl; count-is = rw c (number_counts a n h); die-is = d }
number_then a b n (ANumber m) h (e, v) = rw (e, v, append-nil) h

number_joins : Sequence IsNum AfterNumber IsPart
number_joins = record { then = number_then; ends = λ a n g. ([], ANumber n, (refl, refl)) }

group_after : (n : ℕ) (s : List ℕ) (y : Part) → Wrapped AGroup (IsRest n) s y → AfterNumber n s y
group_after n s y (g, h, v) = rw v h

group_alone : (s : List ℕ) (y : Part) → Wrapped AGroup (IsRest 1) s y → IsPart s y
group_alone s y (g, (die, e, (d, c)), v) = rw v (record { count = []; die = die; parts = e; count-is = c; die-is = d })

pub reads_part : (s : List ℕ) → Reads part_at IsPart s
unfolding part_at
reads_part s = reads_head is_digit _ _ IsPart s
    (λ b t e. reads_bind num_at (λ n. on_head (nat_eq 100) (bind (group_at n) (λ g. done (AGroup g))) (done (ANumber n))) IsNum AfterNumber IsPart number_joins (b ∷ t) (reads_number 8 (b ∷ t))
    (λ n. reads_head (nat_eq 100) _ _ (AfterNumber n) _
    (λ c r f. reads_as _ (Wrapped AGroup (IsRest n)) (AfterNumber n) (c ∷ r) (group_after n) (reads_wrapped AGroup (group_at n) (IsRest n) (c ∷ r) (reads_group n (c ∷ r))))
    (λ r. reads_done (AfterNumber n) (ANumber n) r (refl, refl))))
    (λ t. reads_as _ (Wrapped AGroup (IsRest 1)) IsPart t group_alone (reads_wrapped AGroup (group_at 1) (IsRest 1) t (reads_group 1 t)))

abbrev pub term_of : Bool → Part → Term
term_of minus part = record { minus = minus; part = part }

-- a part and further terms
abbrev PartAndMore : Bool → List ℕ → List Term → Type 0
PartAndMore minus = Then IsPart (λ part. Wrapped (λ ts. term_of minus part ∷ ts) AreMore)

part_zero : IsPart (48 ∷ []) (ANumber 0)
part_zero = number_zero 8

sign_left : (b : ℕ) (v : Bool) → nat_eq 43 b ≡ v → v || false ≡ true → nat_eq 43 b ≡ true
sign_left b true e h = e
sign_left b false e h = absurd cc

sign_by : (b : ℕ) (v : Bool) → nat_eq 45 b ≡ v → nat_eq 43 b || v ≡ true → b ≡ sign v
sign_by b true e h = eq_means 45 b e
sign_by b false e h = eq_means 43 b (sign_left b (nat_eq 43 b) refl h)

sign_is : (b : ℕ) → is_sign b ≡ true → b ≡ sign (nat_eq 45 b)
sign_is b h = sign_by b (nat_eq 45 b) refl h

more_then : (a b : List ℕ) (x : ℕ) (ts : List Term) → IsItem is_sign a x → PartAndMore (nat_eq 45 x) b ts → AreMore (a ++ b) ts
more_then a b x ts (t, e) (f, g, part, e1, h, (us, more, v)) =
    let k : x ≡ sign (nat_eq 45 x) = sign_is x t in
    rw v (f, g, rw (e, e1) (ap (λ (c : ℕ). c ∷ (f ++ g)) k), h, more)

more_joins : Sequence (IsItem is_sign) (λ b. PartAndMore (nat_eq 45 b)) AreMore
more_joins = record {
  then = more_then;
  ends = λ a x g. (48 ∷ [], term_of (nat_eq 45 x) (ANumber 0) ∷ [], (48 ∷ [], [], ANumber 0, refl, part_zero, ([], refl, refl)));
}

signs : SomeItem is_sign
signs = record { byte = 43; meets = refl }

reads_ended : (s : List ℕ) → Reads (ended []) AreMore s
reads_ended [] = record { outcome = Some []; rest = []; front = []; is = refl; split = refl; one = λ b z z' e. absurd cc; fate = refl }
reads_ended (b ∷ s) = record { outcome = None; rest = b ∷ s; front = []; is = refl; split = refl; one = λ c z z' e. refl; fate = ([], [], refl) }

part_and : (minus : Bool) (turns : ℕ) (s : List ℕ) → ((r : List ℕ) → Reads (more_at turns) AreMore r) → Reads (bind part_at (λ part. bind (more_at turns) (λ ts. done (term_of minus part ∷ ts)))) (PartAndMore minus) s
part_and minus turns s more = reads_then part_at _ IsPart (λ part. Wrapped (λ ts. term_of minus part ∷ ts) AreMore) s
    (λ part. ([], term_of minus part ∷ [], ([], refl, refl))) (reads_part s)
    (λ part r. reads_wrapped (λ ts. term_of minus part ∷ ts) (more_at turns) AreMore r (more r))

pub reads_more : (turns : ℕ) (s : List ℕ) → Reads (more_at turns) AreMore s
reads_more zero s = record { outcome = None; rest = s; front = []; is = refl; split = refl; one = λ b z z' e. refl; fate = ([], [], refl) }
reads_more (suc turns) s = reads_head is_sign _ _ AreMore s
    (λ b t e. reads_bind (item is_sign) (λ c. bind part_at (λ part. bind (more_at turns) (λ ts. done (term_of (nat_eq 45 c) part ∷ ts)))) (IsItem is_sign) (λ c. PartAndMore (nat_eq 45 c)) AreMore more_joins (b ∷ t)
    (reads_item is_sign signs (b ∷ t)) (λ c. part_and (nat_eq 45 c) turns _ (reads_more turns)))
    reads_ended

whole_dice : (s : List ℕ) (ts : List Term) → PartAndMore false s ts → IsDice s ts
whole_dice s ts (a, b, part, e, h, (us, more, v)) = rw v (refl, a, b, e, h, more)

pub reads_dice : (turns : ℕ) (s : List ℕ) → Reads (dice_at turns) IsDice s
unfolding dice_at
reads_dice turns s = reads_as (dice_at turns) (PartAndMore false) IsDice s whole_dice (part_and false turns s (reads_more turns))
