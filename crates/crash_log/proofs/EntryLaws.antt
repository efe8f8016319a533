-- Entries are read back from their bytes, and bytes that are an entry's are those of the entry that is read.
use Rattle.std.proofs.Common.{◌≡◌, ◌≤◌, ◌<◌, ◌^◌, inl, inr, ℕ, suc, ◌+◌, List, [], ◌∷◌, ◌++◌, length, get_or, take, drop, refl, sym, ◌∙◌, ap, arith, append_assoc, length-append, length-drop, take-append-drop, Option, Some, None, true, false}
use Rattle.std.specs.Prelude.{IfSome}
use Rattle.std.specs.Int.{w64, to_be_bytes, from_be_bytes}
use Rattle.std.proofs.lemmas.Nat.{from_be_bytes-to_be_bytes_8, be_bytes_8}
use Rattle.std.proofs.lemmas.Bool.{cases_eq, cases_lt}
use Rattle.std.proofs.lemmas.Bool.Decides.{nat_tests}
use Rattle.std.proofs.lemmas.List.{take_at, drop_at, length-take, drop-drop, get_or-take, get_or-drop, get_or_past}
use Rattle.crash_log.specs.Entries.{entry_bytes, entry_of, kind_of, join_of, leave_of, taken_of, cut_of, InRange}
use Rattle.campaign_law.specs.declared.entry.Entry.{Entry}
use Rattle.campaign_law.specs.declared.entry.Entry.TheVariants.{Join, Line, Leave, Taken, Cut}

known_seat : (kind seat : ℕ) (rest : List ℕ) → seat ≤ 32 → entry_of (kind ∷ seat ∷ rest) ≡ kind_of kind seat rest
known_seat kind seat rest le = grind (arith, nat_tests)

length-eight : (n : ℕ) → length (to_be_bytes w64 n) ≡ 8
length-eight n = refl

join_long : (seat : ℕ) (rest : List ℕ) → 16 ≤ length rest → join_of seat rest ≡ Some (Join seat (drop 16 rest) (from_be_bytes w64 (take 8 rest)) (from_be_bytes w64 (take 8 (drop 8 rest))))
join_long seat rest long = grind (arith, nat_tests)

join_back : (seat reader writer : ℕ) (key : List ℕ) → reader < 2 ^ 64 → writer < 2 ^ 64
    → join_of seat (to_be_bytes w64 reader ++ (to_be_bytes w64 writer ++ key)) ≡ Some (Join seat key reader writer)
join_back seat reader writer key r w =
    let rest = to_be_bytes w64 reader ++ (to_be_bytes w64 writer ++ key) in
    let reader_is : from_be_bytes w64 (take 8 rest) ≡ reader = ap (from_be_bytes w64) (take_at (to_be_bytes w64 reader) (to_be_bytes w64 writer ++ key) 8 refl) ∙ from_be_bytes-to_be_bytes_8 reader r in
    let behind : drop 8 rest ≡ to_be_bytes w64 writer ++ key = drop_at (to_be_bytes w64 reader) (to_be_bytes w64 writer ++ key) 8 refl in
    let writer_is : from_be_bytes w64 (take 8 (drop 8 rest)) ≡ writer =
    ap (λ (l : List ℕ). from_be_bytes w64 (take 8 l)) behind ∙ ap (from_be_bytes w64) (take_at (to_be_bytes w64 writer) key 8 refl) ∙ from_be_bytes-to_be_bytes_8 writer w in
    let key_is : drop 16 rest ≡ key = ap (drop 16) (sym (append_assoc (to_be_bytes w64 reader) (to_be_bytes w64 writer) key)) ∙ drop_at (to_be_bytes w64 reader ++ to_be_bytes w64 writer) key 16 refl in
    join_long seat rest (omega (arith, length-append (to_be_bytes w64 reader) (to_be_bytes w64 writer ++ key), length-append (to_be_bytes w64 writer) key)) ∙ (λ i. Some (Join seat (key_is i) (reader_is i) (writer_is i)))

-- what is written is read back
pub read_back : (e : Entry) → InRange e → entry_of (entry_bytes e) ≡ Some e
read_back (Join seat key reader writer) range = known_seat 0 seat (to_be_bytes w64 reader ++ (to_be_bytes w64 writer ++ key)) range.0 ∙ join_back seat reader writer key range.1 range.2
read_back (Line seat bytes) range = known_seat 1 seat bytes range
read_back (Leave seat true) range = known_seat 2 seat (1 ∷ []) range
read_back (Leave seat false) range = known_seat 2 seat (0 ∷ []) range
read_back (Taken seat count) range = known_seat 3 seat (to_be_bytes w64 count) range.0 ∙ ap (λ (n : ℕ). Some (Taken seat n)) (from_be_bytes-to_be_bytes_8 count range.1)
read_back (Cut seat) range = known_seat 4 seat [] range

-- ---- bytes that are an entry's

-- at least two bytes
pub two_bytes : (e : Entry) → 2 ≤ length (entry_bytes e)
two_bytes (Join seat key reader writer) = omega arith
two_bytes (Line seat bytes) = omega arith
two_bytes (Leave seat drop_lines) = omega arith
two_bytes (Taken seat count) = omega arith
two_bytes (Cut seat) = omega arith

some_is : (a b : Entry) → Some a ≡ Some b → a ≡ b
some_is a b same = cc

small_take : (n : ℕ) (bytes : List ℕ) → ((i : ℕ) → get_or bytes i 0 < 256) → (i : ℕ) → get_or (take n bytes) i 0 < 256
small_take n bytes small i = elim (cases_lt i n) [
  | inl within ↦ omega (arith, get_or-take n bytes i 0 within, small i)
  | inr past ↦ let none : get_or (take n bytes) i 0 ≡ 0 = get_or_past (take n bytes) i 0 (omega (arith, length-take n bytes)) in omega (arith, none)
]

small_drop : (n : ℕ) (bytes : List ℕ) → ((i : ℕ) → get_or bytes i 0 < 256) → (i : ℕ) → get_or (drop n bytes) i 0 < 256
small_drop n bytes small i = omega (arith, get_or-drop n bytes i 0, small (n + i))

joined_parts : (rest : List ℕ) → take 8 rest ++ (take 8 (drop 8 rest) ++ drop 16 rest) ≡ rest
joined_parts rest =
    ap (λ (l : List ℕ). take 8 rest ++ (take 8 (drop 8 rest) ++ l)) (sym (drop-drop 8 8 rest)) ∙ ap (λ (l : List ℕ). take 8 rest ++ l) (take-append-drop 8 (drop 8 rest)) ∙ take-append-drop 8 rest

join_written : (seat : ℕ) (rest : List ℕ) (e : Entry) → ((i : ℕ) → get_or rest i 0 < 256) → join_of seat rest ≡ Some e → entry_bytes e ≡ 0 ∷ seat ∷ rest
join_written seat rest e small is = elim (cases_lt (length rest) 16) [
  | inl short ↦ let none : join_of seat rest ≡ None = grind (arith, nat_tests) in absurd (cc (none, is))
  | inr enough ↦
      let reader = from_be_bytes w64 (take 8 rest) in
      let writer = from_be_bytes w64 (take 8 (drop 8 rest)) in
      let found : join_of seat rest ≡ Some (Join seat (drop 16 rest) reader writer) = grind (arith, nat_tests) in
      let same : e ≡ Join seat (drop 16 rest) reader writer = cc (found, is) in
      let first : to_be_bytes w64 reader ≡ take 8 rest = be_bytes_8 (take 8 rest) reader (omega (arith, length-take 8 rest)) (small_take 8 rest small) refl in
      let second : to_be_bytes w64 writer ≡ take 8 (drop 8 rest) =
      be_bytes_8 (take 8 (drop 8 rest)) writer (omega (arith, length-take 8 (drop 8 rest), length-drop 8 rest)) (small_take 8 (drop 8 rest) (small_drop 8 rest small)) refl in
      ap entry_bytes same ∙ (λ i. 0 ∷ seat ∷ (first i ++ (second i ++ drop 16 rest))) ∙ ap (λ (l : List ℕ). 0 ∷ seat ∷ l) (joined_parts rest)
]

leave_written : (seat : ℕ) (rest : List ℕ) (e : Entry) → leave_of seat rest ≡ Some e → entry_bytes e ≡ 2 ∷ seat ∷ rest
leave_written seat [] e is = absurd (cc is)
leave_written seat (a ∷ b ∷ rest) e is = absurd (cc is)
leave_written seat (a ∷ []) e is = elim (cases_eq a 0) [
  | inl zero_is ↦ let found : leave_of seat (a ∷ []) ≡ Some (Leave seat false) = grind (arith, nat_tests) in let same : e ≡ Leave seat false = cc (found, is) in ap entry_bytes same ∙ ap (λ (n : ℕ). 2 ∷ seat ∷ n ∷ []) (sym zero_is)
  | inr not_zero ↦ elim (cases_eq a 1) [
    | inl one_is ↦ let found : leave_of seat (a ∷ []) ≡ Some (Leave seat true) = grind (arith, nat_tests) in let same : e ≡ Leave seat true = cc (found, is) in ap entry_bytes same ∙ ap (λ (n : ℕ). 2 ∷ seat ∷ n ∷ []) (sym one_is)
    | inr not_one ↦ let none : leave_of seat (a ∷ []) ≡ None = grind (arith, nat_tests) in absurd (cc (none, is))
  ]
]

taken_written : (seat : ℕ) (rest : List ℕ) (e : Entry) → ((i : ℕ) → get_or rest i 0 < 256) → taken_of seat rest ≡ Some e → entry_bytes e ≡ 3 ∷ seat ∷ rest
taken_written seat rest e small is = elim (cases_eq (length rest) 8) [
  | inl eight ↦
      let found : taken_of seat rest ≡ Some (Taken seat (from_be_bytes w64 rest)) = grind (arith, nat_tests) in
      let same : e ≡ Taken seat (from_be_bytes w64 rest) = cc (found, is) in
      ap entry_bytes same ∙ ap (λ (l : List ℕ). 3 ∷ seat ∷ l) (be_bytes_8 rest (from_be_bytes w64 rest) eight small refl)
  | inr other ↦ let none : taken_of seat rest ≡ None = grind (arith, nat_tests) in absurd (cc (none, is))
]

cut_written : (seat : ℕ) (rest : List ℕ) (e : Entry) → cut_of seat rest ≡ Some e → entry_bytes e ≡ 4 ∷ seat ∷ rest
cut_written seat [] e is = let same : e ≡ Cut seat = cc is in ap entry_bytes same
cut_written seat (a ∷ rest) e is = absurd (cc is)

kind_written : (kind seat : ℕ) (rest : List ℕ) (e : Entry) → ((i : ℕ) → get_or rest i 0 < 256) → kind_of kind seat rest ≡ Some e → entry_bytes e ≡ kind ∷ seat ∷ rest
kind_written kind seat rest e small is = elim (cases_eq kind 0) [
  | inl k ↦ let there : kind_of kind seat rest ≡ join_of seat rest = grind (arith, nat_tests) in join_written seat rest e small (sym there ∙ is) ∙ ap (λ (n : ℕ). n ∷ seat ∷ rest) (sym k)
  | inr k0 ↦ elim (cases_eq kind 1) [
    | inl k ↦ let there : kind_of kind seat rest ≡ Some (Line seat rest) = grind (arith, nat_tests) in let same : e ≡ Line seat rest = cc (there, is) in ap entry_bytes same ∙ ap (λ (n : ℕ). n ∷ seat ∷ rest) (sym k)
    | inr k1 ↦ elim (cases_eq kind 2) [
      | inl k ↦ let there : kind_of kind seat rest ≡ leave_of seat rest = grind (arith, nat_tests) in leave_written seat rest e (sym there ∙ is) ∙ ap (λ (n : ℕ). n ∷ seat ∷ rest) (sym k)
      | inr k2 ↦ elim (cases_eq kind 3) [
        | inl k ↦ let there : kind_of kind seat rest ≡ taken_of seat rest = grind (arith, nat_tests) in taken_written seat rest e small (sym there ∙ is) ∙ ap (λ (n : ℕ). n ∷ seat ∷ rest) (sym k)
        | inr k3 ↦ elim (cases_eq kind 4) [
          | inl k ↦ let there : kind_of kind seat rest ≡ cut_of seat rest = grind (arith, nat_tests) in cut_written seat rest e (sym there ∙ is) ∙ ap (λ (n : ℕ). n ∷ seat ∷ rest) (sym k)
          | inr k4 ↦ let none : kind_of kind seat rest ≡ None = grind (arith, nat_tests) in absurd (cc (none, is))
        ]
      ]
    ]
  ]
]

-- what is read was written so
pub written_back : (bytes : List ℕ) (e : Entry) → ((i : ℕ) → get_or bytes i 0 < 256) → entry_of bytes ≡ Some e → entry_bytes e ≡ bytes
written_back [] e small is = absurd (cc is)
written_back (a ∷ []) e small is = absurd (cc is)
written_back (kind ∷ seat ∷ rest) e small is = elim (cases_lt 32 seat) [
  | inl past ↦ let none : entry_of (kind ∷ seat ∷ rest) ≡ None = grind (arith, nat_tests) in absurd (cc (none, is))
  | inr le ↦ kind_written kind seat rest e (λ i. small (suc (suc i))) (sym (known_seat kind seat rest le) ∙ is)
]

-- of what is read, where there is an entry
pub written_if : (bytes : List ℕ) (entry : Option Entry) → ((i : ℕ) → get_or bytes i 0 < 256) → entry ≡ entry_of bytes → IfSome entry (λ e. entry_bytes e ≡ bytes)
written_if bytes None small is = tt
written_if bytes (Some e) small is = written_back bytes e small (sym is)
