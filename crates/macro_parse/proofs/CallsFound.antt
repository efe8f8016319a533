-- Names and calls, as the code reads them.
use Rattle.std.proofs.Common.{◌≡◌, ℕ, zero, suc, ◌+◌, ◌-◌, ◌≤◌, Bool, true, false, List, length, Some, None, Ok, Err, refl, subst, ◌∙◌, arith}
use Rattle.std.specs.Prelude.{Result, IfOk, IfErr, nat_eq}
use Rattle.std.specs.Global.{Vec}
use Rattle.reading.specs.Reading.{Read, bind, item}
use Rattle.macro_parse.specs.declared.nodes.Node.{Node}
use Rattle.macro_parse.specs.declared.nodes.Node.TheVariants.{Name as NameNode, Call as CallNode}
use Rattle.macro_grammar.specs.declared.words.Function.{Function}
use Rattle.macro_parse.specs.declared.nodes.Arguments.{Arguments}
use Rattle.macro_parse.specs.declared.nodes.Arguments.TheVariants.{Nothing, One, Two, Three}
use Rattle.macro_parse.specs.declared.reader.Stop.{Stop}
use Rattle.macro_parse.specs.declared.reader.Stop.TheVariants.{Off, Memory}
use Rattle.macro_grammar.specs.Tree.{Tree, Name, Call0, Call1, Call2, Call3}
use Rattle.macro_grammar.specs.Grammar.{arity}
use Rattle.macro_grammar.specs.Readers.{name_at, function_of, argument_at, closed, arguments_at, called_at, word_at, expression_at, expr_at}
use Rattle.macro_parse.specs.Flat.{Kept, Puts, IsNoName, PutsCall, Finds, place}
use Rattle.macro_parse.specs.Levels.{nests, nested_at}
use Rattle.macro_parse.specs.Found.{FindsName, Argues, Calls, Closes}
use Rattle.macro_parse.proofs.FlatTrees.{put_name, put_call0, put_call1, put_call2, put_call3}
use Rattle.macro_parse.proofs.Finding.{finds_kept, finds_as}
use Rattle.macro_parse.proofs.Scans.{takes_at, took, left, item_none}
use Rattle.macro_parse.proofs.Inside.{word_of, argument_finds, argument_stops, close_none}

-- ---- words

pub word_is : (nest : Bool) (expr : ℕ → Read Tree) (at at2 : ℕ) (s r name : List ℕ) → name_at s ≡ (Some name, r) → at + (length s - length r) ≡ at2 → word_at nest expr at s ≡ called_at nest expr at at2 name (function_of name) r
unfolding word_at
word_is nest expr at at2 s r name e d = rw (e, d) refl

word_none : (nest : Bool) (expr : ℕ → Read Tree) (at : ℕ) (s r : List ℕ) → name_at s ≡ (None, r) → word_at nest expr at s ≡ (None, r)
unfolding word_at
word_none nest expr at s r e = rw e refl

module _ (depth end : ℕ) (s r1 : List ℕ) (room : length s ≤ end) where
  pub word_stops : (Shown : ℕ → Tree → Type 0) (stop : Stop) → FindsName (Err stop) s r1 → Finds Shown (λ turns. word_of depth turns (place end s)) (Err stop) s r1
  word_stops Shown Off h = λ turns lt. word_none (nests depth) (expression_at (nested_at turns depth) turns) (place end s) s r1 h
  word_stops Shown Memory h = tt

  pub word_kept : (n0 n1 : List Node) (at : ℕ) (v : Vec ℕ) (found : Result ℕ Stop) → length r1 ≤ length s → at ≡ place end s → FindsName (Ok v) s r1 → Calls depth v.items None r1
      → IfOk found (λ i. Kept n0 n1 i (NameNode at v)) → IfErr found (λ stop. stop ≡ Memory) → Finds (Puts n0 n1) (λ turns. word_of depth turns (place end s)) found s r1
  word_kept n0 n1 at v found shrinks here h no_call k m =
      finds_kept n0 n1 (NameNode at v) (Puts n0 n1) (λ turns. word_of depth turns (place end s)) found s r1 (Name (place end s) v.items) k m (λ i kept. rw here at (put_name n0 n1 i at v kept))
      (λ turns lt. word_is (nests depth) (expression_at (nested_at turns depth) turns) (place end s) (place end r1) s r1 v.items h (omega arith) ∙ no_call (expression_at (nested_at turns depth) turns) (place end s) (place end r1))

  pub word_calls : (Shown : ℕ → Tree → Type 0) (v : Vec ℕ) (f : Function) (at : ℕ) (found : Result ℕ Stop) (r2 : List ℕ) → length r1 ≤ length s → at ≡ place end s → FindsName (Ok v) s r1 → Calls depth v.items (Some f) r1
      → Finds Shown (λ turns. arguments_at (expression_at (nested_at turns depth) turns) at f (place end r1) (arity f)) found r1 r2
      → Finds Shown (λ turns. word_of depth turns (place end s)) found s r2
  word_calls Shown v f at found r2 shrinks here h calls g =
      finds_as Shown (λ turns. arguments_at (expression_at (nested_at turns depth) turns) at f (place end r1) (arity f)) (λ turns. word_of depth turns (place end s)) found r1 s r2 shrinks
      (λ turns. word_is (nests depth) (expression_at (nested_at turns depth) turns) (place end s) (place end r1) s r1 v.items h (omega arith) ∙ (calls.1 (expression_at (nested_at turns depth) turns) (place end s) (place end r1) ∙ rw here refl)) g

-- ---- arguments

closes_finds : (at : ℕ) (f : Function) (arguments : Arguments) (found : Result ℕ Stop) (s r : List ℕ) (n0 n1 n2 : List Node) (t : Tree) → Closes at f arguments n1 n2 found s r
    → ((i : ℕ) → Kept n1 n2 i (CallNode at f arguments) → Puts n0 n2 i t) → IsNoName t → Finds (PutsCall n0 n2) (λ turns. closed t) found s r
closes_finds at f arguments (Ok i) s r n0 n1 n2 t (e, k) put nameless = (t, record { puts = put i k; no_name = nameless }, λ turns lt. rw e refl)
closes_finds at f arguments (Err Off) s r n0 n1 n2 t e put nameless = λ turns lt. close_none t s r e
closes_finds at f arguments (Err Memory) s r n0 n1 n2 t e put nameless = tt

abbrev pub args_of : ℕ → ℕ → Function → ℕ → ℕ → Read Tree
args_of depth at f turns at2 = arguments_at (expression_at (nested_at turns depth) turns) at f at2 (arity f)

module _ (depth at : ℕ) (f : Function) where
  nothing_is : (turns at2 : ℕ) (s : List ℕ) → arity f ≡ 0 → args_of depth at f turns at2 s ≡ bind (item (nat_eq 40)) (λ _. closed (Call0 at f)) s
  unfolding arguments_at
  nothing_is turns at2 s n = rw n refl

  one_is : (d turns at2 : ℕ) (s : List ℕ) → depth ≡ suc d → arity f ≡ suc zero → args_of depth at f turns at2 s ≡ argument_at (expr_at d turns) 40 at2 (λ at3 x. closed (Call1 at f x)) s
  unfolding arguments_at
  one_is d turns at2 s e n = rw (n, e) refl

  two_is : (d turns at2 : ℕ) (s : List ℕ) → depth ≡ suc d → arity f ≡ suc (suc zero) → args_of depth at f turns at2 s ≡ argument_at (expr_at d turns) 40 at2 (λ at3 x. argument_at (expr_at d turns) 44 at3 (λ at4 y. closed (Call2 at f x y))) s
  unfolding arguments_at
  two_is d turns at2 s e n = rw (n, e) refl

  three_is : (d m turns at2 : ℕ) (s : List ℕ) → depth ≡ suc d → arity f ≡ suc (suc (suc m)) → args_of depth at f turns at2 s ≡ argument_at (expr_at d turns) 40 at2 (λ at3 x. argument_at (expr_at d turns) 44 at3 (λ at4 y. argument_at (expr_at d turns) 44 at4 (λ at5 z. closed (Call3 at f x y z)))) s
  unfolding arguments_at
  three_is d m turns at2 s e n = rw (n, e) refl

  module _ (end : ℕ) (s r1 : List ℕ) (n0 n1 : List Node) (room : length s ≤ end) where
    pub nothing_open : arity f ≡ 0 → takes_at 40 s ≡ (Some false, r1) → Finds (PutsCall n0 n1) (λ turns. args_of depth at f turns (place end s)) (Err Off) s r1
    nothing_open n e = λ turns lt. let g = left 40 s r1 e in let k = g.0 in let q = item_none 40 s g.1 in nothing_is turns (place end s) s n ∙ rw (k, q) refl

    pub nothing_closed : (found : Result ℕ Stop) (r2 : List ℕ) → arity f ≡ 0 → takes_at 40 s ≡ (Some true, r1) → Closes at f Nothing n0 n1 found r1 r2 → Finds (PutsCall n0 n1) (λ turns. args_of depth at f turns (place end s)) found s r2
    nothing_closed found r2 n e h =
        let k = took 40 s r1 e in
        let len : length s ≡ suc (length r1) = rw k refl in
        finds_as (PutsCall n0 n1) (λ turns. closed (Call0 at f)) (λ turns. args_of depth at f turns (place end s)) found r1 s r2 (omega arith)
        (λ turns. nothing_is turns (place end s) s n ∙ rw k refl)
        (closes_finds at f Nothing found r1 r2 n0 n0 n1 (Call0 at f) h (λ i kept. put_call0 n0 n1 i at f kept) tt)

    -- the first argument stops
    pub first_stops : (Shown : ℕ → Tree → Type 0) (d m : ℕ) (stop : Stop) → depth ≡ suc d → arity f ≡ suc m → Argues 40 d end n0 n1 (Err stop) s r1 → Finds Shown (λ turns. args_of depth at f turns (place end s)) (Err stop) s r1
    first_stops Shown d zero stop e n h =
        finds_as Shown (λ turns. argument_at (expr_at d turns) 40 (place end s) (λ at3 x. closed (Call1 at f x))) (λ turns. args_of depth at f turns (place end s)) (Err stop) s s r1 (omega arith)
        (λ turns. one_is d turns (place end s) s e n) (argument_stops Shown (λ turns at3 x. closed (Call1 at f x)) 40 d end s r1 n0 n1 room stop h)
    first_stops Shown d (suc zero) stop e n h =
        finds_as Shown (λ turns. argument_at (expr_at d turns) 40 (place end s) (λ at3 x. argument_at (expr_at d turns) 44 at3 (λ at4 y. closed (Call2 at f x y)))) (λ turns. args_of depth at f turns (place end s)) (Err stop) s s r1 (omega arith)
        (λ turns. two_is d turns (place end s) s e n) (argument_stops Shown (λ turns at3 x. argument_at (expr_at d turns) 44 at3 (λ at4 y. closed (Call2 at f x y))) 40 d end s r1 n0 n1 room stop h)
    first_stops Shown d (suc (suc m)) stop e n h =
        finds_as Shown (λ turns. argument_at (expr_at d turns) 40 (place end s) (λ at3 x. argument_at (expr_at d turns) 44 at3 (λ at4 y. argument_at (expr_at d turns) 44 at4 (λ at5 z. closed (Call3 at f x y z))))) (λ turns. args_of depth at f turns (place end s)) (Err stop) s s r1 (omega arith)
        (λ turns. three_is d m turns (place end s) s e n) (argument_stops Shown (λ turns at3 x. argument_at (expr_at d turns) 44 at3 (λ at4 y. argument_at (expr_at d turns) 44 at4 (λ at5 z. closed (Call3 at f x y z)))) 40 d end s r1 n0 n1 room stop h)

    module _ (d first : ℕ) (nest : depth ≡ suc d) (h1 : Argues 40 d end n0 n1 (Ok first) s r1) (end1 : ℕ) (same1 : end1 ≡ end) where
      pub one_closed : (found : Result ℕ Stop) (r2 : List ℕ) (n2 : List Node) → arity f ≡ suc zero → Closes at f (One first) n1 n2 found r1 r2 → Finds (PutsCall n0 n2) (λ turns. args_of depth at f turns (place end s)) found s r2
      one_closed found r2 n2 n h =
          finds_as (PutsCall n0 n2) (λ turns. argument_at (expr_at d turns) 40 (place end s) (λ at3 x. closed (Call1 at f x))) (λ turns. args_of depth at f turns (place end s)) found s s r2 (omega arith)
          (λ turns. one_is d turns (place end s) s nest n)
          (argument_finds (PutsCall n0 n2) (λ turns at3 x. closed (Call1 at f x)) 40 d end s r1 n0 n1 room first found r2 h1
          (λ x p. closes_finds at f (One first) found r1 r2 n0 n1 n2 (Call1 at f x) h (λ i kept. put_call1 n0 n1 n2 i at first f x p kept) tt))

      module _ (room1 : length r1 ≤ end) (r2 : List ℕ) (n2 : List Node) where
        pub second_stops : (Shown : ℕ → Tree → Type 0) (m : ℕ) (stop : Stop) → arity f ≡ suc (suc m) → Argues 44 d end1 n1 n2 (Err stop) r1 r2 → Finds Shown (λ turns. args_of depth at f turns (place end s)) (Err stop) s r2
        second_stops Shown zero stop n h =
            let h2 = subst (λ (e : ℕ). Argues 44 d e n1 n2 (Err stop) r1 r2) same1 h in
            finds_as Shown (λ turns. argument_at (expr_at d turns) 40 (place end s) (λ at3 x. argument_at (expr_at d turns) 44 at3 (λ at4 y. closed (Call2 at f x y)))) (λ turns. args_of depth at f turns (place end s)) (Err stop) s s r2 (omega arith)
            (λ turns. two_is d turns (place end s) s nest n)
            (argument_finds Shown (λ turns at3 x. argument_at (expr_at d turns) 44 at3 (λ at4 y. closed (Call2 at f x y))) 40 d end s r1 n0 n1 room first (Err stop) r2 h1
            (λ x p. argument_stops Shown (λ turns at4 y. closed (Call2 at f x y)) 44 d end r1 r2 n1 n2 room1 stop h2))
        second_stops Shown (suc m) stop n h =
            let h2 = subst (λ (e : ℕ). Argues 44 d e n1 n2 (Err stop) r1 r2) same1 h in
            finds_as Shown (λ turns. argument_at (expr_at d turns) 40 (place end s) (λ at3 x. argument_at (expr_at d turns) 44 at3 (λ at4 y. argument_at (expr_at d turns) 44 at4 (λ at5 z. closed (Call3 at f x y z))))) (λ turns. args_of depth at f turns (place end s)) (Err stop) s s r2 (omega arith)
            (λ turns. three_is d m turns (place end s) s nest n)
            (argument_finds Shown (λ turns at3 x. argument_at (expr_at d turns) 44 at3 (λ at4 y. argument_at (expr_at d turns) 44 at4 (λ at5 z. closed (Call3 at f x y z)))) 40 d end s r1 n0 n1 room first (Err stop) r2 h1
            (λ x p. argument_stops Shown (λ turns at4 y. argument_at (expr_at d turns) 44 at4 (λ at5 z. closed (Call3 at f x y z))) 44 d end r1 r2 n1 n2 room1 stop h2))

        module _ (second : ℕ) (h2 : Argues 44 d end1 n1 n2 (Ok second) r1 r2) where
          pub two_closed : (found : Result ℕ Stop) (r3 : List ℕ) (n3 : List Node) → arity f ≡ suc (suc zero) → Closes at f (Two first second) n2 n3 found r2 r3 → Finds (PutsCall n0 n3) (λ turns. args_of depth at f turns (place end s)) found s r3
          two_closed found r3 n3 n h =
              let h3 = rw same1 at h2 in
              finds_as (PutsCall n0 n3) (λ turns. argument_at (expr_at d turns) 40 (place end s) (λ at3 x. argument_at (expr_at d turns) 44 at3 (λ at4 y. closed (Call2 at f x y)))) (λ turns. args_of depth at f turns (place end s)) found s s r3 (omega arith)
              (λ turns. two_is d turns (place end s) s nest n)
              (argument_finds (PutsCall n0 n3) (λ turns at3 x. argument_at (expr_at d turns) 44 at3 (λ at4 y. closed (Call2 at f x y))) 40 d end s r1 n0 n1 room first found r3 h1
              (λ x p. argument_finds (PutsCall n0 n3) (λ turns at4 y. closed (Call2 at f x y)) 44 d end r1 r2 n1 n2 room1 second found r3 h3
              (λ y q. closes_finds at f (Two first second) found r2 r3 n0 n2 n3 (Call2 at f x y) h (λ i kept. put_call2 n0 n1 n2 n3 i at first second f x y p q kept) tt)))

          module _ (m end2 : ℕ) (same2 : end2 ≡ end1) (room2 : length r2 ≤ end) (r3 : List ℕ) (n3 : List Node) (many : arity f ≡ suc (suc (suc m))) where
            pub third_stops : (Shown : ℕ → Tree → Type 0) (stop : Stop) → Argues 44 d end2 n2 n3 (Err stop) r2 r3 → Finds Shown (λ turns. args_of depth at f turns (place end s)) (Err stop) s r3
            third_stops Shown stop h =
                let h3 = rw same1 at h2 in
                let h4 = subst (λ (e : ℕ). Argues 44 d e n2 n3 (Err stop) r2 r3) (same2 ∙ same1) h in
                finds_as Shown (λ turns. argument_at (expr_at d turns) 40 (place end s) (λ at3 x. argument_at (expr_at d turns) 44 at3 (λ at4 y. argument_at (expr_at d turns) 44 at4 (λ at5 z. closed (Call3 at f x y z))))) (λ turns. args_of depth at f turns (place end s)) (Err stop) s s r3 (omega arith)
                (λ turns. three_is d m turns (place end s) s nest many)
                (argument_finds Shown (λ turns at3 x. argument_at (expr_at d turns) 44 at3 (λ at4 y. argument_at (expr_at d turns) 44 at4 (λ at5 z. closed (Call3 at f x y z)))) 40 d end s r1 n0 n1 room first (Err stop) r3 h1
                (λ x p. argument_finds Shown (λ turns at4 y. argument_at (expr_at d turns) 44 at4 (λ at5 z. closed (Call3 at f x y z))) 44 d end r1 r2 n1 n2 room1 second (Err stop) r3 h3
                (λ y q. argument_stops Shown (λ turns at5 z. closed (Call3 at f x y z)) 44 d end r2 r3 n2 n3 room2 stop h4)))

            pub three_closed : (third : ℕ) (found : Result ℕ Stop) (r4 : List ℕ) (n4 : List Node) → Argues 44 d end2 n2 n3 (Ok third) r2 r3 → Closes at f (Three first second third) n3 n4 found r3 r4 → Finds (PutsCall n0 n4) (λ turns. args_of depth at f turns (place end s)) found s r4
            three_closed third found r4 n4 h5 h =
                let h3 = rw same1 at h2 in
                let h4 = rw (same2, same1) at h5 in
                finds_as (PutsCall n0 n4) (λ turns. argument_at (expr_at d turns) 40 (place end s) (λ at3 x. argument_at (expr_at d turns) 44 at3 (λ at4 y. argument_at (expr_at d turns) 44 at4 (λ at5 z. closed (Call3 at f x y z))))) (λ turns. args_of depth at f turns (place end s)) found s s r4 (omega arith)
                (λ turns. three_is d m turns (place end s) s nest many)
                (argument_finds (PutsCall n0 n4) (λ turns at3 x. argument_at (expr_at d turns) 44 at3 (λ at4 y. argument_at (expr_at d turns) 44 at4 (λ at5 z. closed (Call3 at f x y z)))) 40 d end s r1 n0 n1 room first found r4 h1
                (λ x p. argument_finds (PutsCall n0 n4) (λ turns at4 y. argument_at (expr_at d turns) 44 at4 (λ at5 z. closed (Call3 at f x y z))) 44 d end r1 r2 n1 n2 room1 second found r4 h3
                (λ y q. argument_finds (PutsCall n0 n4) (λ turns at5 z. closed (Call3 at f x y z)) 44 d end r2 r3 n2 n3 room2 third found r4 h4
                (λ z w. closes_finds at f (Three first second third) found r3 r4 n0 n3 n4 (Call3 at f x y z) h (λ i kept. put_call3 n0 n1 n2 n3 n4 i at first second third f x y z p q w kept) tt))))
