-- The lines of a script, one after the other.
use Rattle.std.proofs.Common.{◌≡◌, ℕ, zero, suc, ◌+◌, ◌-◌, ◌≤◌, List, ◌++◌, append_assoc, refl, sym, ap, ◌∙◌, arith, true, false, Bool, cond, ◌==◌}
use Rattle.std.proofs.lemmas.List.{append-nil}
use Rattle.std.specs.List.{flat_map, range_with_len}
use Rattle.serde_json.specs.Written.{has_float}
use Rattle.drill.specs.Script.{Course, Made, after, drawn, drill_script, first_course, gm_line, hello, hellos_text, line_after, lines_after, move_line, player_line, script_line}

-- ---- no command has a float

pub hello_exact : (seat : ℕ) → has_float (hello seat) ≡ false
hello_exact seat = refl

either_exact : (b : Bool) (x y : Made) → has_float x.command ≡ false → has_float y.command ≡ false → has_float (let made : Made = cond b x y in made.command) ≡ false
either_exact true x y h k = h
either_exact false x y h k = k

gm_exact : (c : Course) (kind : ℕ) → has_float (let made : Made = gm_line c kind in made.command) ≡ false
gm_exact c kind = either_exact (kind == 0) _ _ refl (either_exact (kind == 1) _ _ refl (either_exact (kind == 2) _ _ refl refl))

player_exact : (c : Course) (seat kind : ℕ) → has_float (let made : Made = player_line c seat kind in made.command) ≡ false
player_exact c seat kind = either_exact (kind == 2) _ _ refl (either_exact (kind == 3) _ (move_line c seat) refl refl)

pub line_exact : (c : Course) → has_float (let made : Made = line_after c in made.command) ≡ false
unfolding line_after
line_exact c =
    let on : Course = after (after c) in
    let seat : ℕ = drawn c 5 in
    let kind : ℕ = drawn (after c) 4 in
    either_exact (seat == 0) (gm_line on kind) (player_line on seat kind) (gm_exact on kind) (player_exact on seat kind)

-- ---- a line takes at most five draws

either_near : (b : Bool) (x y : Made) (most : ℕ) → x.course.next ≤ most → y.course.next ≤ most → (let made : Made = cond b x y in made.course.next) ≤ most
either_near true x y most h k = h
either_near false x y most h k = k

gm_near : (c : Course) (kind : ℕ) → (let made : Made = gm_line c kind in made.course.next) ≤ c.next + 3
gm_near c kind = either_near (kind == 0) _ _ _ (omega arith) (either_near (kind == 1) _ _ _ (omega arith) (either_near (kind == 2) _ _ _ (omega arith) (omega arith)))

player_near : (c : Course) (seat kind : ℕ) → (let made : Made = player_line c seat kind in made.course.next) ≤ c.next + 3
player_near c seat kind = either_near (kind == 2) _ _ _ (omega arith) (either_near (kind == 3) _ (move_line c seat) _ (omega arith) (omega arith))

pub line_near : (c : Course) → (let made : Made = line_after c in made.course.next) ≤ c.next + 5
unfolding line_after
line_near c =
    let on : Course = after (after c) in
    let seat : ℕ = drawn c 5 in
    let kind : ℕ = drawn (after c) 4 in
    either_near (seat == 0) (gm_line on kind) (player_line on seat kind) (c.next + 5) (omega (arith, gm_near on kind)) (omega (arith, player_near on seat kind))

-- ---- one line more

-- the hellos are written
pub first_lines : (c : Course) (text : List ℕ) (lines : ℕ) → text ≡ hellos_text 5 → c ≡ first_course c.number → text ++ lines_after c (lines - 5) ≡ drill_script c.number lines
unfolding drill_script
first_lines c text lines hellos start = (λ i. hellos i ++ lines_after (start i) (lines - 5))

-- of so many lines that are left the first is written
pub one_line : (c : Course) (text whole : List ℕ) (left less : ℕ) → left ≡ suc less → text ++ lines_after c left ≡ whole
    → (let made : Made = line_after c in (text ++ script_line made.seat made.command) ++ lines_after made.course less) ≡ whole
unfolding lines_after
one_line c text whole left less count e =
    let made : Made = line_after c in
    append_assoc text (script_line made.seat made.command) (lines_after made.course less) ∙ ap (λ n. text ++ lines_after c n) (sym count) ∙ e

-- no line is left
pub no_line : (c : Course) (text whole : List ℕ) (left : ℕ) → left ≡ 0 → text ++ lines_after c left ≡ whole → text ≡ whole
unfolding lines_after
no_line c text whole left none e = sym (append-nil text) ∙ ap (λ n. text ++ lines_after c n) (sym none) ∙ e

flat_more : (f : ℕ → List ℕ) (n from : ℕ) → flat_map f (range_with_len from (suc n)) ≡ flat_map f (range_with_len from n) ++ f (from + n)
flat_more f zero from = let e : from ≡ from + 0 = omega arith in append-nil (f from) ∙ ap f e
flat_more f (suc n) from =
    let e : (from + 1) + n ≡ from + suc n = omega arith in
    ap (λ l. f from ++ l) (flat_more f n (from + 1) ∙ ap (λ k. flat_map f (range_with_len (from + 1) n) ++ f k) e) ∙ sym (append_assoc (f from) (flat_map f (range_with_len (from + 1) n)) (f (from + suc n)))

pub hellos_more : (n : ℕ) → hellos_text (n + 1) ≡ hellos_text n ++ script_line n (hello n)
hellos_more n =
    let next : n + 1 ≡ suc n = omega arith in
    let at : 0 + n ≡ n = omega arith in
    ap hellos_text next ∙ flat_more (λ seat. script_line seat (hello seat)) n 0 ∙ ap (λ k. hellos_text n ++ script_line k (hello k)) at
