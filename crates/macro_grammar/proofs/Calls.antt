-- Names and calls: each is read as its grammar says, and each word is read again.
use Rattle.std.proofs.Common.{◌≡◌, ℕ, zero, suc, ◌+◌, ◌<◌, ◌≤◌, Bool, true, false, ◌&&◌, ◌||◌, List, [], ◌∷◌, ◌++◌, length, Option, Some, None, refl, sym, ap, ◌∙◌, append_assoc, append-nil, arith, inl, inr, ◌⊎◌}
use Rattle.std.specs.Prelude.{nat_eq}
use Rattle.std.proofs.lemmas.List.{length-append}
use Rattle.reading.specs.Reading.{Read, done, item}
use Rattle.reading.specs.Placed.{Grammar, bind_at}
use Rattle.reading.proofs.Pairs.{eq_means, Free}
use Rattle.reading.proofs.Laws.{Reads, reads_done, reads_bind, reads_as, reads_item, reads_head, IsItem}
use Rattle.reading.proofs.Combine.{only, Wrapped, reads_wrapped}
use Rattle.reading.proofs.Placed.{bind_at_is, PlacedSequence, reads_bind_at, Inhabited}
use Rattle.macro_grammar.specs.declared.words.Function.{Function}
use Rattle.macro_grammar.specs.declared.words.Function.TheVariants.{Prop, Own, Secret, Has, SetProp, SetOwn, Arg, Argc, Min, Max, Abs, Len, Num}
use Rattle.macro_grammar.specs.Tree.{Tree, Number, Dice, Quoted, Name, Call0, Call1, Call2, Call3, Negated, Inverted, Binary, Assigned}
use Rattle.macro_grammar.specs.Grammar.{IsName, function_name, arity, IsLeaf, IsCall, argument_place}
use Rattle.macro_grammar.specs.Readers.{is_name_byte, name_at, function_of, argument_at, closed, arguments_at, may_call, called_at, word_at}
use Rattle.macro_grammar.proofs.Names.{letter_means, TheName, reads_name, name_back, function_means, function_named}
use Rattle.macro_grammar.proofs.Leaves.{and_right}

-- ---- separators and arguments

-- one word behind another, with places
abbrev pub ThenAt : {A B : Type 0} → Grammar A → (ℕ → A → List ℕ → B → Type 0) → Grammar B
ThenAt {A} G K at s y = (a : List ℕ) × (b : List ℕ) × (x : A) × (s ≡ a ++ b) × G at a x × K (at + length a) x b y

pub reads_then_at : {A B : Type 0} (at : ℕ) (p : ℕ → Read A) (k : ℕ → A → Read B) (G : Grammar A) (K : ℕ → A → List ℕ → B → Type 0) (s : List ℕ)
    → ((at2 : ℕ) (x : A) → (b : List ℕ) × (y : B) × K at2 x b y) → Reads (p at) (G at) s → ((at2 : ℕ) (x : A) (r : List ℕ) → Reads (k at2 x) (K at2 x) r) → Reads (bind_at at p k) (ThenAt G K at) s
reads_then_at at p k G K s ends first second = reads_bind_at at p k G K (ThenAt G K) (record { then = λ a b x y g h. (a, b, x, refl, g, h); ends = λ a x g. ends (at + length a) x }) s first second

-- a separator, a word and what follows
abbrev pub Argument : {B : Type 0} → Grammar Tree → ℕ → (ℕ → Tree → List ℕ → B → Type 0) → Grammar B
Argument Expr separator K at s y = (a : List ℕ) × (b : List ℕ) × (x : Tree) × (s ≡ separator ∷ (a ++ b)) × Expr (at + 1) a x × K ((at + 1) + length a) x b y

argument_then : {B : Type 0} (Expr : Grammar Tree) (separator : ℕ) (K : ℕ → Tree → List ℕ → B → Type 0) (at : ℕ) (a s : List ℕ) (c : ℕ) (y : B) → IsItem (nat_eq separator) a c → ThenAt Expr K (at + length a) s y → Argument Expr separator K at (a ++ s) y
argument_then Expr separator K at a s c y g (f, b, x, e, h, k) =
    let same = eq_means separator c g.0 in
    let front : a ≡ separator ∷ [] = g.1 ∙ ap (λ (w : ℕ). w ∷ []) same in
    let one : at + length a ≡ at + 1 = ap (λ (w : List ℕ). at + length w) front in
    (f, b, x, rw (front, e) refl, rw one at h, rw one at k)

pub reads_argument : {B : Type 0} (expr : ℕ → Read Tree) (Expr : Grammar Tree) (separator at : ℕ) (k : ℕ → Tree → Read B) (K : ℕ → Tree → List ℕ → B → Type 0) (s : List ℕ) → nat_eq separator separator ≡ true
    → ((at2 : ℕ) (r : List ℕ) → Reads (expr at2) (Expr at2) r) → Inhabited Expr → ((at2 : ℕ) (x : Tree) → (b : List ℕ) × (y : B) × K at2 x b y) → ((at2 : ℕ) (x : Tree) (r : List ℕ) → Reads (k at2 x) (K at2 x) r)
    → Reads (argument_at expr separator at k) (Argument Expr separator K at) s
reads_argument expr Expr separator at k K s same reads some ends reads_k =
    reads_bind_at at (λ _. item (nat_eq separator)) (λ at2 _. bind_at at2 expr k) (λ _. IsItem (nat_eq separator)) (λ at2 _. ThenAt Expr K at2) (Argument Expr separator K)
    (record {
      then = λ a b c y g h. argument_then Expr separator K at a b c y g h;
      ends = λ a c g. let w = some (at + length a) in let e = ends ((at + length a) + length w.0) w.1 in (w.0 ++ e.0, e.1, (w.0, e.0, w.1, refl, w.2, e.2));
    }) s
    (reads_item (nat_eq separator) (only separator same) s) (λ at2 c r. reads_then_at at2 expr k Expr K r ends (reads at2 r) reads_k)

pub reads_closed : {A : Type 0} (x : A) (s : List ℕ) → Reads (closed x) (Wrapped (λ _. x) (IsItem (nat_eq 41))) s
reads_closed x s = reads_wrapped (λ _. x) (item (nat_eq 41)) (IsItem (nat_eq 41)) s (reads_item (nat_eq 41) (only 41 refl) s)

pub some_closed : {A : Type 0} (x : A) → (b : List ℕ) × (y : A) × Wrapped (λ _. x) (IsItem (nat_eq 41)) b y
some_closed x = (41 ∷ [], x, (41, (refl, refl), refl))

pub closed_is : {A : Type 0} (x y : A) (s : List ℕ) → Wrapped (λ _. x) (IsItem (nat_eq 41)) s y → (s ≡ 41 ∷ []) × (y ≡ x)
closed_is x y s (b, (t, e), v) = let k = eq_means 41 b t in (rw (e, k) refl, v)

-- a separator and an argument are read again
pub argument_again : {B : Type 0} (expr : ℕ → Read Tree) (separator at : ℕ) (k : ℕ → Tree → Read B) (a z : List ℕ) (x : Tree) → nat_eq separator separator ≡ true → expr (at + 1) (a ++ z) ≡ (Some x, z)
    → argument_at expr separator at k (separator ∷ (a ++ z)) ≡ k ((at + 1) + length a) x z
argument_again expr separator at k a z x same e =
    bind_at_is at (λ _. item (nat_eq separator)) (λ at2 _. bind_at at2 expr k) (separator ∷ (a ++ z)) (separator ∷ []) (a ++ z) separator (rw same refl) refl
    ∙ bind_at_is (at + 1) expr k (a ++ z) a z x e refl

-- ---- names of functions

pub name_is : (f : Function) → IsName (function_name f)
name_is Prop = (letter_means 112 refl, (inl (letter_means 114 refl), (inl (letter_means 111 refl), (inl (letter_means 112 refl), tt))), omega arith)
name_is Own = (letter_means 111 refl, (inl (letter_means 119 refl), (inl (letter_means 110 refl), tt)), omega arith)
name_is Secret = (letter_means 115 refl, (inl (letter_means 101 refl), (inl (letter_means 99 refl), (inl (letter_means 114 refl), (inl (letter_means 101 refl), (inl (letter_means 116 refl), tt))))), omega arith)
name_is Has = (letter_means 104 refl, (inl (letter_means 97 refl), (inl (letter_means 115 refl), tt)), omega arith)
name_is SetProp = (letter_means 115 refl, (inl (letter_means 101 refl), (inl (letter_means 116 refl), (inl (letter_means 112 refl), (inl (letter_means 114 refl), (inl (letter_means 111 refl), (inl (letter_means 112 refl), tt)))))), omega arith)
name_is SetOwn = (letter_means 115 refl, (inl (letter_means 101 refl), (inl (letter_means 116 refl), (inl (letter_means 111 refl), (inl (letter_means 119 refl), (inl (letter_means 110 refl), tt))))), omega arith)
name_is Arg = (letter_means 97 refl, (inl (letter_means 114 refl), (inl (letter_means 103 refl), tt)), omega arith)
name_is Argc = (letter_means 97 refl, (inl (letter_means 114 refl), (inl (letter_means 103 refl), (inl (letter_means 99 refl), tt))), omega arith)
name_is Min = (letter_means 109 refl, (inl (letter_means 105 refl), (inl (letter_means 110 refl), tt)), omega arith)
name_is Max = (letter_means 109 refl, (inl (letter_means 97 refl), (inl (letter_means 120 refl), tt)), omega arith)
name_is Abs = (letter_means 97 refl, (inl (letter_means 98 refl), (inl (letter_means 115 refl), tt)), omega arith)
name_is Len = (letter_means 108 refl, (inl (letter_means 101 refl), (inl (letter_means 110 refl), tt)), omega arith)
name_is Num = (letter_means 110 refl, (inl (letter_means 117 refl), (inl (letter_means 109 refl), tt)), omega arith)

-- ---- what stands behind a function's name

module _ (nests : Bool) (expr : ℕ → Read Tree) (Expr : Grammar Tree) where
  -- from the bracket on, with so many arguments
  abbrev pub Args : ℕ → Function → ℕ → ℕ → List ℕ → Tree → Type 0
  Args at f at2 zero s t = (s ≡ 40 ∷ (41 ∷ [])) × (t ≡ Call0 at f)
  Args at f at2 (suc zero) s t = (nests ≡ true) × Argument Expr 40 (λ at3 x. Wrapped (λ _. Call1 at f x) (IsItem (nat_eq 41))) at2 s t
  Args at f at2 (suc (suc zero)) s t = (nests ≡ true) × Argument Expr 40 (λ at3 x. Argument Expr 44 (λ at4 y. Wrapped (λ _. Call2 at f x y) (IsItem (nat_eq 41))) at3) at2 s t
  Args at f at2 (suc (suc (suc n))) s t = (nests ≡ true) × Argument Expr 40 (λ at3 x. Argument Expr 44 (λ at4 y. Argument Expr 44 (λ at5 z. Wrapped (λ _. Call3 at f x y z) (IsItem (nat_eq 41))) at4) at3) at2 s t

  -- nothing, or the arguments of the function of this name
  abbrev pub AfterName : ℕ → ℕ → List ℕ → List ℕ → Tree → Type 0
  AfterName at at2 name s t = ((s ≡ []) × (t ≡ Name at name)) ⊎ ((f : Function) × (function_name f ≡ name) × Args at f at2 (arity f) s t)

  abbrev pub IsWord : Grammar Tree
  IsWord at s t = IsLeaf at s t ⊎ IsCall nests Expr at s t

  module _ (reads_expr : nests ≡ true → (at : ℕ) (s : List ℕ) → Reads (expr at) (Expr at) s) (some_expr : nests ≡ true → Inhabited Expr) where
    no_arguments : (at : ℕ) (f : Function) (at2 : ℕ) (s : List ℕ) → Reads (arguments_at expr at f at2 0) (Args at f at2 0) s
    unfolding arguments_at
    no_arguments at f at2 s = reads_bind (item (nat_eq 40)) (λ _. closed (Call0 at f)) (IsItem (nat_eq 40)) (λ _. Wrapped (λ _. Call0 at f) (IsItem (nat_eq 41))) (Args at f at2 0)
        (record { then = λ a b c t g h. let k = eq_means 40 c g.0 in let e = g.1 in let q = closed_is (Call0 at f) t b h in let z = q.0 in (rw (e, k, z) refl, q.1); ends = λ a c g. some_closed (Call0 at f) }) s
        (reads_item (nat_eq 40) (only 40 refl) s) (λ _. reads_closed (Call0 at f) _)

    some_last : (separator at : ℕ) (mk : Tree → Tree) → nests ≡ true → (b : List ℕ) × (t : Tree) × Argument Expr separator (λ at3 x. Wrapped (λ _. mk x) (IsItem (nat_eq 41))) at b t
    some_last separator at mk may_nest = let w = some_expr may_nest (at + 1) in (separator ∷ (w.0 ++ (41 ∷ [])), mk w.1, (w.0, 41 ∷ [], w.1, refl, w.2, (41, (refl, refl), refl)))

    reads_last : (separator at : ℕ) (mk : Tree → Tree) (s : List ℕ) → nat_eq separator separator ≡ true → nests ≡ true → Reads (argument_at expr separator at (λ at3 x. closed (mk x))) (Argument Expr separator (λ at3 x. Wrapped (λ _. mk x) (IsItem (nat_eq 41))) at) s
    reads_last separator at mk s same may_nest = reads_argument expr Expr separator at (λ at3 x. closed (mk x)) (λ at3 x. Wrapped (λ _. mk x) (IsItem (nat_eq 41))) s same (reads_expr may_nest) (some_expr may_nest) (λ at2 x. some_closed (mk x)) (λ at2 x r. reads_closed (mk x) r)

    some_two : (separator at : ℕ) (mk : Tree → Tree → Tree) → nests ≡ true → (b : List ℕ) × (t : Tree) × Argument Expr separator (λ at3 x. Argument Expr 44 (λ at4 y. Wrapped (λ _. mk x y) (IsItem (nat_eq 41))) at3) at b t
    some_two separator at mk may_nest =
        let w = some_expr may_nest (at + 1) in
        let e = some_last 44 ((at + 1) + length w.0) (mk w.1) may_nest in
        (separator ∷ (w.0 ++ e.0), e.1, (w.0, e.0, w.1, refl, w.2, e.2))

    reads_two : (separator at : ℕ) (mk : Tree → Tree → Tree) (s : List ℕ) → nat_eq separator separator ≡ true → nests ≡ true
        → Reads (argument_at expr separator at (λ at3 x. argument_at expr 44 at3 (λ at4 y. closed (mk x y)))) (Argument Expr separator (λ at3 x. Argument Expr 44 (λ at4 y. Wrapped (λ _. mk x y) (IsItem (nat_eq 41))) at3) at) s
    reads_two separator at mk s same may_nest = reads_argument expr Expr separator at (λ at3 x. argument_at expr 44 at3 (λ at4 y. closed (mk x y))) (λ at3 x. Argument Expr 44 (λ at4 y. Wrapped (λ _. mk x y) (IsItem (nat_eq 41))) at3) s same (reads_expr may_nest) (some_expr may_nest)
        (λ at2 x. some_last 44 at2 (mk x) may_nest) (λ at2 x r. reads_last 44 at2 (mk x) r refl may_nest)

    both : {A : Type 0} (p : Read A) (G : List ℕ → A → Type 0) (s : List ℕ) → nests ≡ true → Reads p G s → Reads p (λ f x. (nests ≡ true) × G f x) s
    both p G s may_nest r = reads_as p G (λ f x. (nests ≡ true) × G f x) s (λ f x g. (may_nest, g)) r

    reads_arguments : (at : ℕ) (f : Function) (at2 n : ℕ) (s : List ℕ) → (n ≡ 0) ⊎ (nests ≡ true) → Reads (arguments_at expr at f at2 n) (Args at f at2 n) s
    unfolding arguments_at
    reads_arguments at f at2 zero s h = no_arguments at f at2 s
    reads_arguments at f at2 (suc n) s (inl h) = absurd (omega arith)
    reads_arguments at f at2 (suc zero) s (inr may_nest) = both _ _ s may_nest (reads_last 40 at2 (Call1 at f) s refl may_nest)
    reads_arguments at f at2 (suc (suc zero)) s (inr may_nest) = both _ _ s may_nest (reads_two 40 at2 (Call2 at f) s refl may_nest)
    reads_arguments at f at2 (suc (suc (suc n))) s (inr may_nest) = both _ _ s may_nest (reads_argument expr Expr 40 at2 (λ at3 x. argument_at expr 44 at3 (λ at4 y. argument_at expr 44 at4 (λ at5 z. closed (Call3 at f x y z))))
        (λ at3 x. Argument Expr 44 (λ at4 y. Argument Expr 44 (λ at5 z. Wrapped (λ _. Call3 at f x y z) (IsItem (nat_eq 41))) at4) at3) s refl (reads_expr may_nest) (some_expr may_nest) (λ at3 x. some_two 44 at3 (Call3 at f x) may_nest) (λ at3 x r. reads_two 44 at3 (Call3 at f x) r refl may_nest))

    may : (v : Bool) (n : ℕ) → v || nat_eq n 0 ≡ true → (n ≡ 0) ⊎ (v ≡ true)
    may true n h = inr refl
    may false n h = inl (let k = eq_means n 0 h in sym k)

    reads_called : (at at2 : ℕ) (name : List ℕ) (o : Option Function) (s : List ℕ) → ((f : Function) → o ≡ Some f → function_name f ≡ name) → Reads (called_at nests expr at at2 name o) (AfterName at at2 name) s
    reads_called at at2 name None s means = reads_done (AfterName at at2 name) (Name at name) s (inl (refl, refl))
    reads_called at at2 name (Some f) s means = reads_head (λ b. nat_eq 40 b && may_call nests f) (arguments_at expr at f at2 (arity f)) (done (Name at name)) (AfterName at at2 name) s
        (λ b t e. reads_as (arguments_at expr at f at2 (arity f)) (Args at f at2 (arity f)) (AfterName at at2 name) (b ∷ t) (λ g u h. inr (f, means f refl, h))
        (reads_arguments at f at2 (arity f) (b ∷ t) (may nests (arity f) (and_right (nat_eq 40 b) (may_call nests f) e))))
        (λ t. reads_done (AfterName at at2 name) (Name at name) t (inl (refl, refl)))

    arity_most : (f : Function) → arity f ≤ 3
    arity_most Prop = omega arith
    arity_most Own = omega arith
    arity_most Secret = omega arith
    arity_most Has = omega arith
    arity_most SetProp = omega arith
    arity_most SetOwn = omega arith
    arity_most Arg = omega arith
    arity_most Argc = omega arith
    arity_most Min = omega arith
    arity_most Max = omega arith
    arity_most Abs = omega arith
    arity_most Len = omega arith
    arity_most Num = omega arith

    call_word : (at : ℕ) (f : Function) (at2 n : ℕ) (s : List ℕ) (t : Tree) → arity f ≡ n → at2 ≡ at + length (function_name f) → Args at f at2 n s t → IsCall nests Expr at (function_name f ++ s) t
    call_word at f at2 zero s t ar pl (e, v) = rw v (refl, ar, ap (λ (w : List ℕ). function_name f ++ w) e)
    call_word at f at2 (suc zero) s t ar pl (nn, (a, b, x, e, h, last)) =
        let q = closed_is (Call1 at f x) t b last in
        let z = q.0 in
        rw q.1 (nn, refl, ar, a, rw (e, z) refl, rw pl at h)
    call_word at f at2 (suc (suc zero)) s t ar pl (nn, (a, b, x, e, h, (c, d, y, e2, h2, last))) =
        let q = closed_is (Call2 at f x y) t d last in
        let z = q.0 in
        rw q.1 (nn, refl, ar, a, c, rw (e, e2, z) refl, rw pl at h, rw pl at h2)
    call_word at f at2 (suc (suc (suc n))) s t ar pl (nn, (a, b, x, e, h, (c, d, y, e2, h2, (g, k, u, e3, h3, last)))) =
        let q = closed_is (Call3 at f x y u) t k last in
        let z = q.0 in
        let most = arity_most f in
        let three : arity f ≡ 3 = omega arith in
        rw q.1 (nn, refl, three, a, c, g, rw (e, e2, e3, z) refl, rw pl at h, rw pl at h2, rw pl at h3)

    word_then : (at : ℕ) (a s name : List ℕ) (t : Tree) → TheName a name → AfterName at (at + length a) name s t → IsWord at (a ++ s) t
    word_then at a s name t (e, h) (inl (z, v)) = inl (rw (v, z) (refl, append-nil a ∙ e, h))
    word_then at a s name t (e, h) (inr (f, fn, args)) =
        let front : a ≡ function_name f = e ∙ sym fn in
        let place : at + length a ≡ at + length (function_name f) = ap (λ (w : List ℕ). at + length w) front in
        inr (rw front (call_word at f (at + length a) (arity f) s t refl place args))

    word_joins : (at : ℕ) → PlacedSequence at (λ _. TheName) (AfterName at) IsWord
    word_joins at = record { then = λ a s name t g h. word_then at a s name t g h; ends = λ a name g. ([], Name at name, inl (refl, refl)) }

    pub reads_word : (at : ℕ) (s : List ℕ) → Reads (word_at nests expr at) (IsWord at) s
    unfolding word_at
    reads_word at s = reads_bind_at at (λ _. name_at) (λ at2 name. called_at nests expr at at2 name (function_of name)) (λ _. TheName) (AfterName at) IsWord (word_joins at) s
        (reads_name s) (λ at2 name r. reads_called at at2 name (function_of name) r (λ f e. function_means f name e))

  -- ---- read again

  no_call : (at at2 : ℕ) (name r : List ℕ) (o : Option Function) → Free (nat_eq 40) r → called_at nests expr at at2 name o r ≡ (Some (Name at name), r)
  no_call at at2 name r None free = refl
  no_call at at2 name [] (Some f) free = refl
  no_call at at2 name (b ∷ r) (Some f) free = rw free refl

  pub name_again : (at : ℕ) (name r : List ℕ) → IsName name → Free is_name_byte r → Free (nat_eq 40) r → word_at nests expr at (name ++ r) ≡ (Some (Name at name), r)
  unfolding word_at
  name_again at name r h free no_bracket =
      bind_at_is at (λ _. name_at) (λ at2 x. called_at nests expr at at2 x (function_of x)) (name ++ r) name r name (name_back name r h free) refl
      ∙ no_call at (at + length name) name r (function_of name) no_bracket

  call_begins : (at : ℕ) (f : Function) (z : List ℕ) → may_call nests f ≡ true → word_at nests expr at (function_name f ++ (40 ∷ z)) ≡ arguments_at expr at f (at + length (function_name f)) (arity f) (40 ∷ z)
  unfolding word_at
  call_begins at f z may_be =
      bind_at_is at (λ _. name_at) (λ at2 x. called_at nests expr at at2 x (function_of x)) (function_name f ++ (40 ∷ z)) (function_name f) (40 ∷ z) (function_name f) (name_back (function_name f) (40 ∷ z) (name_is f) refl) refl
      ∙ rw (function_named f, may_be) refl

  may_with : (f : Function) → nests ≡ true → may_call nests f ≡ true
  may_with f may_nest = rw may_nest refl

  none_may : (v : Bool) (n : ℕ) → n ≡ 0 → v || nat_eq n 0 ≡ true
  none_may true n e = refl
  none_may false n e = rw e refl

  module _ (stops : ℕ → Bool) (close : stops 41 ≡ false) (comma : stops 44 ≡ false) (turns : ℕ)
      (again : nests ≡ true → (at : ℕ) (b z : List ℕ) (t : Tree) → Expr at b t → Free stops z → length b < turns → expr at (b ++ z) ≡ (Some t, z)) where
    pub call_again : (at : ℕ) (s r : List ℕ) (t : Tree) → IsCall nests Expr at s t → length s < turns → word_at nests expr at (s ++ r) ≡ (Some t, r)
    unfolding arguments_at
    call_again at s r (Call0 p f) (pl, ar, e) lt =
        let q : s ++ r ≡ function_name f ++ (40 ∷ (41 ∷ r)) = ap (λ (w : List ℕ). w ++ r) e ∙ append_assoc (function_name f) (40 ∷ (41 ∷ [])) r in
        rw (q, pl) (call_begins at f (41 ∷ r) (none_may nests (arity f) ar) ∙ rw ar refl)
    call_again at s r (Call1 p f x) (nn, pl, ar, a, e, h) lt =
        let len = ap length e in
        let len2 = length-append (function_name f) (40 ∷ (a ++ (41 ∷ []))) in
        let len3 = length-append a (41 ∷ []) in
        let q : s ++ r ≡ function_name f ++ (40 ∷ (a ++ (41 ∷ r))) = ap (λ (w : List ℕ). w ++ r) e ∙ simp append_assoc refl in
        let k = argument_again expr 40 (at + length (function_name f)) (λ at3 y. closed (Call1 at f y)) a (41 ∷ r) x refl (again nn (argument_place at f) a (41 ∷ r) x h close (omega arith)) in
        rw (q, pl) (call_begins at f (a ++ (41 ∷ r)) (may_with f nn) ∙ rw (ar, k) refl)
    call_again at s r (Call2 p f x y) (nn, pl, ar, a, b, e, h, g) lt =
        let len = ap length e in
        let len2 = length-append (function_name f) (40 ∷ (a ++ (44 ∷ (b ++ (41 ∷ []))))) in
        let len3 = length-append a (44 ∷ (b ++ (41 ∷ []))) in
        let len4 = length-append b (41 ∷ []) in
        let q : s ++ r ≡ function_name f ++ (40 ∷ (a ++ (44 ∷ (b ++ (41 ∷ r))))) = ap (λ (w : List ℕ). w ++ r) e ∙ simp append_assoc refl in
        let k = argument_again expr 40 (at + length (function_name f)) (λ at3 u. argument_at expr 44 at3 (λ at4 v. closed (Call2 at f u v))) a (44 ∷ (b ++ (41 ∷ r))) x refl (again nn (argument_place at f) a (44 ∷ (b ++ (41 ∷ r))) x h comma (omega arith)) in
        let l = argument_again expr 44 (argument_place at f + length a) (λ at4 v. closed (Call2 at f x v)) b (41 ∷ r) y refl (again nn ((argument_place at f + length a) + 1) b (41 ∷ r) y g close (omega arith)) in
        rw (q, pl) (call_begins at f (a ++ (44 ∷ (b ++ (41 ∷ r)))) (may_with f nn) ∙ rw ar (k ∙ l))
    call_again at s r (Call3 p f x y z) (nn, pl, ar, a, b, c, e, h, g, d) lt =
        let len = ap length e in
        let len2 = length-append (function_name f) (40 ∷ (a ++ (44 ∷ (b ++ (44 ∷ (c ++ (41 ∷ []))))))) in
        let len3 = length-append a (44 ∷ (b ++ (44 ∷ (c ++ (41 ∷ []))))) in
        let len4 = length-append b (44 ∷ (c ++ (41 ∷ []))) in
        let len5 = length-append c (41 ∷ []) in
        let q : s ++ r ≡ function_name f ++ (40 ∷ (a ++ (44 ∷ (b ++ (44 ∷ (c ++ (41 ∷ r))))))) = ap (λ (w : List ℕ). w ++ r) e ∙ simp append_assoc refl in
        let k = argument_again expr 40 (at + length (function_name f)) (λ at3 u. argument_at expr 44 at3 (λ at4 v. argument_at expr 44 at4 (λ at5 w. closed (Call3 at f u v w)))) a (44 ∷ (b ++ (44 ∷ (c ++ (41 ∷ r))))) x refl (again nn (argument_place at f) a (44 ∷ (b ++ (44 ∷ (c ++ (41 ∷ r))))) x h comma (omega arith)) in
        let l = argument_again expr 44 (argument_place at f + length a) (λ at4 v. argument_at expr 44 at4 (λ at5 w. closed (Call3 at f x v w))) b (44 ∷ (c ++ (41 ∷ r))) y refl (again nn ((argument_place at f + length a) + 1) b (44 ∷ (c ++ (41 ∷ r))) y g comma (omega arith)) in
        let m = argument_again expr 44 (((argument_place at f + length a) + 1) + length b) (λ at5 w. closed (Call3 at f x y w)) c (41 ∷ r) z refl (again nn ((((argument_place at f + length a) + 1) + length b) + 1) c (41 ∷ r) z d close (omega arith)) in
        rw (q, pl) (call_begins at f (a ++ (44 ∷ (b ++ (44 ∷ (c ++ (41 ∷ r)))))) (may_with f nn) ∙ rw ar (k ∙ (l ∙ m)))
    call_again at s r (Number p n) h lt = absurd h
    call_again at s r (Dice p g) h lt = absurd h
    call_again at s r (Quoted p m) h lt = absurd h
    call_again at s r (Name p x) h lt = absurd h
    call_again at s r (Negated p u) h lt = absurd h
    call_again at s r (Inverted p u) h lt = absurd h
    call_again at s r (Binary p o x y) h lt = absurd h
    call_again at s r (Assigned p x u) h lt = absurd h
