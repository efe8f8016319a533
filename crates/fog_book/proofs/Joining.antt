-- Joining to each set what is seen, in place.
use Rattle.std.proofs.Common.{◌≡◌, ℕ, zero, suc, ◌+◌, ◌<◌, ◌≤◌, List, [], ◌∷◌, ◌++◌, length, get_or, set, take, drop, refl, sym, ap, subst, ◌∙◌, append_assoc, arith}
use Rattle.std.specs.Prelude.{Bool, true, false, cond, Option, Some, None, option_map, find}
use Rattle.std.specs.List.{AllZip}
use Rattle.std.proofs.lemmas.List.{drop_more, drop-set-lt, length-set, length-drop, take_more_set, take_all}
use Rattle.cells.specs.Cells.{Cells}
use Rattle.fog_book.specs.declared.exposure.Exposure.{Exposure}
use Rattle.fog_book.specs.Exposures.{is_of, cells_at, joined, with_seen, with_found, with_each_seen, HaveOneSize}

-- the sets before a place are joined, and those from it on are as they were
pub record AreJoinedTo (place : ℕ) (old : List Exposure) (seen : List (Option Cells)) (sets : List Exposure) : Type 0 where
  pub count : length sets ≡ length old
  pub left : drop place sets ≡ drop place old
  pub made : take place sets ++ with_each_seen (drop place old) (drop place seen) ≡ with_each_seen old seen

pub sized_at : (sets : List Exposure) (seen : List (Option Cells)) (place : ℕ) (e : Exposure) (c : Option Cells) → AllZip HaveOneSize sets seen → place < length sets → HaveOneSize (get_or sets place e) (get_or seen place c)
sized_at [] seen place e c z lt = absurd (omega arith)
sized_at (x ∷ xs) [] place e c z lt = absurd z
sized_at (x ∷ xs) (y ∷ ys) zero e c z lt = z.0
sized_at (x ∷ xs) (y ∷ ys) (suc place) e c z lt = sized_at xs ys place e c z.1 (omega arith)

pub counted : (sets : List Exposure) (seen : List (Option Cells)) → AllZip HaveOneSize sets seen → length seen ≡ length sets
counted [] [] z = refl
counted [] (y ∷ ys) z = absurd z
counted (x ∷ xs) [] z = absurd z
counted (x ∷ xs) (y ∷ ys) z = ap suc (counted xs ys z.1)

rest_after : {A : Type 0} (xs ys : List A) (n : ℕ) (x : A) → n < length xs → n < length ys → drop n xs ≡ drop n ys → drop (n + 1) xs ≡ drop (n + 1) ys
rest_after xs ys n x lt lt' same = ap (drop 1) (sym (drop_more xs n x lt) ∙ same ∙ drop_more ys n x lt')

pub next : (place : ℕ) (old : List Exposure) (seen : List (Option Cells)) (sets : List Exposure) (x : Exposure) (c : Option Cells) (new : Exposure) → AreJoinedTo place old seen sets → place < length sets → place < length seen → x ≡ get_or sets place x → c ≡ get_or seen place c → new ≡ with_found x c → AreJoinedTo (place + 1) old seen (set sets place new)
next place old seen sets x c new j lt lt' is at joined =
    let lt'' : place < length old = omega (arith, j.count) in
    let old_is : drop place old ≡ x ∷ drop (place + 1) old = drop_more old place x lt'' ∙ ap (λ y. y ∷ drop (place + 1) old) (sym (first_of (sym (drop_more sets place x lt) ∙ j.left ∙ drop_more old place x lt'')) ∙ sym is) in
    let seen_is : drop place seen ≡ c ∷ drop (place + 1) seen = drop_more seen place c lt' ∙ ap (λ y. y ∷ drop (place + 1) seen) (sym at) in
    record {
      count = length-set sets place new ∙ j.count;
      left = drop-set-lt (place + 1) sets place new (omega arith) ∙ rest_after sets old place x lt lt'' j.left;
      made =
          ap (λ front. front ++ with_each_seen (drop (place + 1) old) (drop (place + 1) seen)) (take_more_set sets place new lt)
          ∙ append_assoc (take place sets) (new ∷ []) (with_each_seen (drop (place + 1) old) (drop (place + 1) seen))
          ∙ ap (λ y. take place sets ++ y ∷ with_each_seen (drop (place + 1) old) (drop (place + 1) seen)) joined
          ∙ ap (λ rest. take place sets ++ rest) (sym (λ i. with_each_seen (old_is i) (seen_is i)))
          ∙ j.made;
    }
  where
    first_of : {A : Type 0} {a b : A} {xs ys : List A} → a ∷ xs ≡ b ∷ ys → a ≡ b
    first_of e = cc

pub sized_next : (place : ℕ) (old : List Exposure) (seen : List (Option Cells)) (sets : List Exposure) (x : Exposure) (c : Option Cells) → AreJoinedTo place old seen sets → AllZip HaveOneSize old seen → place < length seen → x ≡ get_or sets place x → c ≡ get_or seen place c → HaveOneSize x c
sized_next place old seen sets x c j z lt is at =
    let many : place < length old = omega (arith, lt, counted old seen z) in
    let same : get_or old place x ≡ x = first_of (sym (drop_more old place x many) ∙ sym j.left ∙ drop_more sets place x (omega (arith, j.count, many))) ∙ sym is in
    subst (λ d. HaveOneSize x d) (sym at) (subst (λ e. HaveOneSize e (get_or seen place c)) same (sized_at old seen place x c z many))
  where
    first_of : {A : Type 0} {a b : A} {xs ys : List A} → a ∷ xs ≡ b ∷ ys → a ≡ b
    first_of e = cc

nothing_each : (old : List Exposure) (seen : List (Option Cells)) → length old ≤ 0 → with_each_seen old seen ≡ []
nothing_each [] seen h = refl
nothing_each (x ∷ xs) seen h = absurd (omega arith)

pub done : (place : ℕ) (old : List Exposure) (seen : List (Option Cells)) (sets : List Exposure) → AreJoinedTo place old seen sets → AllZip HaveOneSize old seen → length seen ≤ place → sets ≡ with_each_seen old seen
done place old seen sets j z end =
    let all : length sets ≤ place = omega (arith, j.count, counted old seen z, end) in
    let none : with_each_seen (drop place old) (drop place seen) ≡ [] = nothing_each (drop place old) (drop place seen) (omega (arith, length-drop place old, j.count, all)) in
    sym (take_all place sets all) ∙ sym (append_nil (take place sets)) ∙ ap (λ rest. take place sets ++ rest) (sym none) ∙ j.made
  where
    append_nil : {A : Type 0} (xs : List A) → xs ++ [] ≡ xs
    append_nil [] = refl
    append_nil (x ∷ xs) = ap (λ r. x ∷ r) (append_nil xs)

-- what holds of a player's set on a map, and stays when more is joined, holds after it
pub kept_each : (P : Option Cells → Type 0) → ((cells seen : Cells) → P (Some cells) → P (Some (joined cells seen))) → (sets : List Exposure) (seen : List (Option Cells)) (seat : ℕ) (name : List ℕ) → P (cells_at sets seat name) → P (cells_at (with_each_seen sets seen) seat name)
kept_each P more [] seen seat name h = h
kept_each P more (x ∷ xs) [] seat name h = h
kept_each P more (x ∷ xs) (y ∷ ys) seat name h = subst (λ b. P (option_map (λ (e : Exposure). e.cells) (cond b (Some (with_found x y)) (find (is_of seat name) (with_each_seen xs ys))))) (sym (same_key y)) (here (is_of seat name x) h (kept_each P more xs ys seat name))
  where
    same_key : (o : Option Cells) → is_of seat name (with_found x o) ≡ is_of seat name x
    same_key None = refl
    same_key (Some seen) = refl

    joins : (o : Option Cells) → P (Some x.cells) → P (Some (with_found x o).cells)
    joins None h = h
    joins (Some seen) h = more x.cells seen h

    here : (b : Bool) → P (option_map (λ (e : Exposure). e.cells) (cond b (Some x) (find (is_of seat name) xs))) → (P (cells_at xs seat name) → P (cells_at (with_each_seen xs ys) seat name)) → P (option_map (λ (e : Exposure). e.cells) (cond b (Some (with_found x y)) (find (is_of seat name) (with_each_seen xs ys))))
    here true h i = joins y h
    here false h i = i h
