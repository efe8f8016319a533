-- Bytes that the code takes or leaves, against the readers.
use Rattle.std.proofs.Common.{◌≡◌, ℕ, zero, suc, append_assoc, append-nil, ◌+◌, ◌-◌, ◌*◌, ◌^◌, ◌++◌, zero-add, inl, inr, ◌<◌, ◌≤◌, Bool, true, false, List, [], ◌∷◌, length, Option, Some, None, refl, sym, ap, ◌∙◌, arith}
use Rattle.std.proofs.lemmas.Bool.Decides.{nat_tests}
use Rattle.std.specs.Prelude.{nat_eq}
use Rattle.reading.specs.Reading.{Read, done, carry, bind, on_head, item}
use Rattle.std.proofs.Math.Nat.{pow-le-pow_right, pow-suc}
use Rattle.std.proofs.lemmas.List.{length-append}
use Rattle.reading.specs.Number.{AreDigits, value_after, IsNumber, number_at}
use Rattle.reading.proofs.Laws.{Fate}
use Rattle.reading.proofs.Number.{reads_number}
use Rattle.reading.proofs.Pairs.{got, none_some_pair, same_pair, eq_means, Free}
use Rattle.reading.specs.Placed.{many_at}
use Rattle.macro_grammar.specs.Readers.{is_blank, blanks_at, is_letter, is_name_byte, name_at, inside_at, quoted_at}
use Rattle.macro_grammar.specs.Tree.{Tree, Quoted}
use Rattle.macro_parse.specs.Found.{in_front, with_bytes}

abbrev pub Skips : List ℕ → List ℕ → Type 0
Skips s rest = (w : List ℕ) × (blanks_at s ≡ (Some w, rest))

abbrev pub takes_at : ℕ → Read Bool
takes_at wanted = on_head (nat_eq wanted) (bind (item (nat_eq wanted)) (λ _. done true)) (done false)

same_some : (a b : Bool) → ◌≡◌ {A = Option Bool} (Some a) (Some b) → a ≡ b
same_some a b e = cc

took_by : (wanted b : ℕ) (s r : List ℕ) (v : Bool) → nat_eq wanted b ≡ v → takes_at wanted (b ∷ s) ≡ (Some true, r) → (b ∷ s) ≡ wanted ∷ r
took_by wanted b s r true t e = let h : got (Some true) s ≡ got (Some true) r = rw t at e in let k = (same_pair (Some true) (Some true) s r h).1 in let m = eq_means wanted b t in rw (k, m) refl
took_by wanted b s r false t e = let h : got (Some false) (b ∷ s) ≡ got (Some true) r = rw t at e in let k = same_some false true (same_pair (Some false) (Some true) (b ∷ s) r h).0 in absurd cc

pub took : (wanted : ℕ) (s r : List ℕ) → takes_at wanted s ≡ (Some true, r) → s ≡ wanted ∷ r
took wanted [] r e = let k = same_some false true (same_pair (Some false) (Some true) [] r e).0 in absurd cc
took wanted (b ∷ s) r e = took_by wanted b s r (nat_eq wanted b) refl e

left_by : (wanted b : ℕ) (s r : List ℕ) (v : Bool) → nat_eq wanted b ≡ v → takes_at wanted (b ∷ s) ≡ (Some false, r) → (r ≡ b ∷ s) × (nat_eq wanted b ≡ false)
left_by wanted b s r true t e = let h : got (Some true) s ≡ got (Some false) r = rw t at e in let k = same_some true false (same_pair (Some true) (Some false) s r h).0 in absurd cc
left_by wanted b s r false t e = let h : got (Some false) (b ∷ s) ≡ got (Some false) r = rw t at e in (sym (same_pair (Some false) (Some false) (b ∷ s) r h).1, t)

pub left : (wanted : ℕ) (s r : List ℕ) → takes_at wanted s ≡ (Some false, r) → (r ≡ s) × Free (nat_eq wanted) s
left wanted [] r e = (sym (same_pair (Some false) (Some false) [] r e).1, tt)
left wanted (b ∷ s) r e = left_by wanted b s r (nat_eq wanted b) refl e

pub skips_more : (s r1 r : List ℕ) → takes_at 32 s ≡ (Some true, r1) → Skips r1 r → Skips s r
skips_more s r1 r e (w, h) = let k = took 32 s r1 e in (32 ∷ w, rw (k, h) refl)

free_blank : (s : List ℕ) → Free (nat_eq 32) s → Skips s s
free_blank [] h = ([], refl)
free_blank (b ∷ s) h = let e : is_blank b ≡ false = grind (arith, nat_tests) in ([], rw e refl)

pub skips_none : (s r : List ℕ) → takes_at 32 s ≡ (Some false, r) → Skips s r
skips_none s r e = let k = left 32 s r e in let f = k.0 in rw f (free_blank s k.1)

-- ---- numbers of nine digits

more_tens : (k v d : ℕ) → v < 10 ^ k → d < 10 → 10 * v + d < 10 ^ (suc k)
more_tens k v d h l = let e : 10 ^ (suc k) ≡ 10 ^ k * 10 = pow-suc 10 k in omega arith

value_bound : (s : List ℕ) (acc k : ℕ) → acc < 10 ^ k → AreDigits s → value_after acc s < 10 ^ (length s + k)
value_bound [] acc k h d = rw (zero-add k) h
value_bound (b ∷ s) acc k h d =
    let small : b - 48 < 10 = let lo = d.0.0 in let hi = d.0.1 in omega arith in
    let rest = value_bound s (10 * acc + (b - 48)) (suc k) (more_tens k acc (b - 48) h small) d.1 in
    let e : length s + suc k ≡ suc (length s) + k = omega arith in
    rw e at rest

number_small : (s : List ℕ) (n : ℕ) → IsNumber 17 s n → length s ≤ 9 → n < 1000000000
number_small [] n h le = absurd h
number_small (b ∷ s) n (inl (e, f, v)) le = rw v (omega arith)
number_small (b ∷ s) n (inr (lo, hi, d, l, v)) le =
    let first : b - 48 < 10 ^ 1 = omega arith in
    let k = value_bound s (b - 48) 1 first d in
    let ten : 0 < 10 = omega arith in
    let few : length s + 1 ≤ 9 = omega arith in
    let most : 10 ^ (length s + 1) ≤ 10 ^ 9 = pow-le-pow_right ten few in
    rw v (omega arith)

pub nine_digits_small : (s r : List ℕ) (n : ℕ) → number_at 17 s ≡ (Some n, r) → length s - length r ≤ 9 → n < 1000000000
nine_digits_small s r n e le =
    let q = reads_number 17 s in
    let k = same_pair q.outcome (Some n) q.rest r (sym q.is ∙ e) in
    let some = k.0 in
    let fate : Fate (IsNumber 17) q.front (Some n) = rw some at q.fate in
    let len : length s ≡ length q.front + length q.rest = ap length q.split ∙ length-append q.front q.rest in
    let same : length q.rest ≡ length r = ap length k.1 in
    number_small q.front n fate (omega arith)

-- ---- names

pub carry_front : (b : ℕ) (o : Option (List ℕ)) (r : List ℕ) → carry (λ bs. done (b ∷ bs)) o r ≡ with_bytes (b ∷ []) (got o r)
carry_front b None r = refl
carry_front b (Some x) r = refl

pub name_begins : (s r : List ℕ) (b : ℕ) → item is_letter s ≡ (Some b, r) → name_at s ≡ with_bytes (b ∷ []) (many_at is_name_byte 23 r)
unfolding name_at
name_begins s r b e = rw e (carry_front b (many_at is_name_byte 23 r).0 (many_at is_name_byte 23 r).1)

pub no_name : (s r : List ℕ) → item is_letter s ≡ (None, r) → name_at s ≡ (None, r)
unfolding name_at
no_name s r e = rw e refl

many_next_by : (test : ℕ → Bool) (most c : ℕ) (s : List ℕ) (b : ℕ) (r : List ℕ) (v : Bool) → test c ≡ v → item test (c ∷ s) ≡ (Some b, r) → many_at test (suc most) (c ∷ s) ≡ with_bytes (b ∷ []) (many_at test most r)
many_next_by test most c s b r true t e =
    let k : got (Some c) s ≡ got (Some b) r = rw t at e in
    let p = same_pair (Some c) (Some b) s r k in
    let same : c ≡ b = cc in
    let rest = p.1 in
    rw (t, rest, same) (carry_front b (many_at test most r).0 (many_at test most r).1)
many_next_by test most c s b r false t e = absurd (none_some_pair b r (c ∷ s) (rw t at e))

many_next : (test : ℕ → Bool) (most : ℕ) (s : List ℕ) (b : ℕ) (r : List ℕ) → item test s ≡ (Some b, r) → many_at test (suc most) s ≡ with_bytes (b ∷ []) (many_at test most r)
many_next test most [] b r e = absurd (none_some_pair b r [] e)
many_next test most (c ∷ s) b r e = many_next_by test most c s b r (test c) refl e

many_stop_by : (test : ℕ → Bool) (most c : ℕ) (s r : List ℕ) (v : Bool) → test c ≡ v → item test (c ∷ s) ≡ (None, r) → many_at test most (c ∷ s) ≡ (Some [], r)
many_stop_by test most c s r true t e = let k : got (Some c) s ≡ got None r = rw t at e in absurd (none_some_pair c s r (sym k))
many_stop_by test zero c s r false t e = let k : got {A = ℕ} None (c ∷ s) ≡ got None r = rw t at e in let rest = (same_pair {A = ℕ} None None (c ∷ s) r k).1 in rw rest refl
many_stop_by test (suc most) c s r false t e = let k : got {A = ℕ} None (c ∷ s) ≡ got None r = rw t at e in let rest = (same_pair {A = ℕ} None None (c ∷ s) r k).1 in rw (t, rest) refl

many_stop : (test : ℕ → Bool) (most : ℕ) (s r : List ℕ) → item test s ≡ (None, r) → many_at test most s ≡ (Some [], r)
many_stop test zero [] r e = let rest = (same_pair {A = ℕ} None None [] r e).1 in rw rest refl
many_stop test (suc most) [] r e = let rest = (same_pair {A = ℕ} None None [] r e).1 in rw rest refl
many_stop test most (c ∷ s) r e = many_stop_by test most c s r (test c) refl e

pub front_twice : (xs ys : List ℕ) (o : Option (List ℕ)) → in_front xs (in_front ys o) ≡ in_front (xs ++ ys) o
front_twice xs ys None = refl
front_twice xs ys (Some zs) = ap Some (sym (append_assoc xs ys zs))

-- one more byte of a name
pub name_goes_on : (whole rest r name : List ℕ) (place b : ℕ) → place < 23 → name_at whole ≡ with_bytes name (many_at is_name_byte (23 - place) rest) → item is_name_byte rest ≡ (Some b, r)
    → name_at whole ≡ with_bytes (name ++ (b ∷ [])) (many_at is_name_byte (23 - (place + 1)) r)
name_goes_on whole rest r name place b lt h e =
    let n : 23 - place ≡ suc (23 - (place + 1)) = omega arith in
    let k = many_next is_name_byte (23 - (place + 1)) rest b r e in
    h ∙ rw (n, k) (ap (λ (o : Option (List ℕ)). got o (many_at is_name_byte (23 - (place + 1)) r).1) (front_twice name (b ∷ []) (many_at is_name_byte (23 - (place + 1)) r).0))

-- no more bytes come
pub name_stops : (whole rest r name : List ℕ) (left : ℕ) → name_at whole ≡ with_bytes name (many_at is_name_byte left rest) → item is_name_byte rest ≡ (None, r) → name_at whole ≡ (Some name, r)
name_stops whole rest r name left h e = let k = many_stop is_name_byte left rest r e in h ∙ rw k (ap (λ (w : List ℕ). got (Some w) r) (append-nil name))

-- no more bytes may come
pub name_full : (whole rest name : List ℕ) (left : ℕ) → left ≡ 0 → name_at whole ≡ with_bytes name (many_at is_name_byte left rest) → name_at whole ≡ (Some name, rest)
name_full whole rest name left z h = h ∙ rw z (ap (λ (w : List ℕ). got (Some w) rest) (append-nil name))

-- ---- quoted texts

abbrev pub quoted_of : ℕ → Option (List ℕ) → Option Tree
quoted_of at None = None
quoted_of at (Some m) = Some (Quoted at m)

abbrev pub quoted_from : ℕ → Option (List ℕ) × List ℕ → Option Tree × List ℕ
quoted_from at p = (quoted_of at p.0, p.1)

-- so much text was read inside the quotes, and the rest is to be read
abbrev pub InsideFrom : List ℕ → List ℕ → List ℕ → Type 0
InsideFrom whole text rest = (at : ℕ) → quoted_at at whole ≡ quoted_from at (with_bytes text (inside_at false rest))

carry_quoted : (at : ℕ) (o : Option (List ℕ)) (r : List ℕ) → carry (λ m. done (Quoted at m)) o r ≡ quoted_from at (with_bytes [] (got o r))
carry_quoted at None r = refl
carry_quoted at (Some m) r = refl

pub quote_opens : (s r : List ℕ) → takes_at 34 s ≡ (Some true, r) → InsideFrom s [] r
unfolding quoted_at
quote_opens s r e at = let k = took 34 s r e in rw k (carry_quoted at (inside_at false r).0 (inside_at false r).1)

pub item_none : (wanted : ℕ) (s : List ℕ) → Free (nat_eq wanted) s → item (nat_eq wanted) s ≡ (None, s)
item_none wanted [] f = refl
item_none wanted (b ∷ s) f = rw f refl

pub no_quote : (s r : List ℕ) → takes_at 34 s ≡ (Some false, r) → (at : ℕ) → quoted_at at s ≡ (None, r)
unfolding quoted_at
no_quote s r e at = let k = left 34 s r e in let f = item_none 34 s k.1 in let g = k.0 in rw (g, f) refl

pub quote_fails : (whole text rest r : List ℕ) → InsideFrom whole text rest → inside_at false rest ≡ (None, r) → (at : ℕ) → quoted_at at whole ≡ (None, r)
quote_fails whole text rest r h e at = h at ∙ rw e refl

pub quote_closes : (whole text rest r : List ℕ) → InsideFrom whole text rest → inside_at false rest ≡ (Some [], r) → (at : ℕ) → quoted_at at whole ≡ (Some (Quoted at text), r)
quote_closes whole text rest r h e at = h at ∙ rw e (ap (λ (w : List ℕ). got (Some (Quoted at w)) r) (append-nil text))

pub quote_goes_on : (whole text rest r : List ℕ) (b : ℕ) → InsideFrom whole text rest → inside_at false rest ≡ with_bytes (b ∷ []) (inside_at false r) → InsideFrom whole (text ++ (b ∷ [])) r
quote_goes_on whole text rest r b h e at = h at ∙ rw e (ap (λ (o : Option (List ℕ)). got (quoted_of at o) (inside_at false r).1) (front_twice text (b ∷ []) (inside_at false r).0))
