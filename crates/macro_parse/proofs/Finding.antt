-- What is found, put together from what its parts found.
use Rattle.std.proofs.Common.{◌≡◌, ℕ, ◌+◌, ◌-◌, ◌<◌, ◌≤◌, List, length, Option, Some, Ok, Err, refl, sym, ap, ◌∙◌, arith}
use Rattle.std.specs.Prelude.{Result, IfOk, IfErr, IsErrAnd}
use Rattle.std.proofs.lemmas.List.{length-append}
use Rattle.reading.specs.Reading.{Read}
use Rattle.reading.specs.Placed.{bind_at}
use Rattle.reading.proofs.Laws.{Reads}
use Rattle.reading.proofs.Pairs.{same_pair}
use Rattle.macro_parse.specs.declared.nodes.Node.{Node}
use Rattle.macro_parse.specs.declared.reader.Stop.{Stop}
use Rattle.macro_parse.specs.declared.reader.Stop.TheVariants.{Off, Memory}
use Rattle.macro_grammar.specs.Tree.{Tree}
use Rattle.macro_grammar.specs.Readers.{blanks_at, then_blanks}
use Rattle.macro_parse.specs.Flat.{Kept, Shows, Puts, Grows, Finds, place}
use Rattle.macro_parse.proofs.FlatTrees.{puts_grows, grows_grows}

-- a reader leaves no more than there was
pub read_shrinks : {T : Type 0} (p : Read T) (G : List ℕ → T → Type 0) (s r : List ℕ) (o : Option T) → Reads p G s → p s ≡ (o, r) → length r ≤ length s
read_shrinks p G s r o q e =
    let k = same_pair q.outcome o q.rest r (sym q.is ∙ e) in
    let len : length s ≡ length q.front + length q.rest = ap length q.split ∙ length-append q.front q.rest in
    let same : length q.rest ≡ length r = ap length k.1 in
    omega arith

pub finds_kept : {T : Type 0} (old new : List Node) (n : Node) (Shown : ℕ → T → Type 0) (read : ℕ → Read T) (found : Result ℕ Stop) (s rest : List ℕ) (t : T)
    → IfOk found (λ i. Kept old new i n) → IfErr found (λ stop. stop ≡ Memory)
    → ((i : ℕ) → Kept old new i n → Shown i t) → ((turns : ℕ) → length s < turns → read turns s ≡ (Some t, rest)) → Finds Shown read found s rest
finds_kept old new n Shown read (Ok i) s rest t k m put told = (t, put i k, told)
finds_kept old new n Shown read (Err Off) s rest t k m put told = absurd cc
finds_kept old new n Shown read (Err Memory) s rest t k m put told = tt

pub finds_memory : {V T : Type 0} (Shown : V → T → Type 0) (read : ℕ → Read T) (stop : Stop) (s rest : List ℕ) → stop ≡ Memory → Finds Shown read (Err stop) s rest
finds_memory Shown read Off s rest e = absurd cc
finds_memory Shown read Memory s rest e = tt

-- where the first part stops, the whole does
pub stops_then : {V W T U : Type 0} (Shown : V → T → Type 0) (Whole : W → U → Type 0) (read : ℕ → ℕ → Read T) (k : ℕ → ℕ → T → Read U) (at : ℕ) (stop : Stop) (s r : List ℕ)
    → Finds Shown (λ turns. read turns at) (Err stop) s r → Finds Whole (λ turns. bind_at at (read turns) (k turns)) (Err stop) s r
stops_then Shown Whole read k at Off s r h = λ turns lt. let e = h turns lt in rw e refl
stops_then Shown Whole read k at Memory s r h = tt

-- the first part was found, and the rest of the whole behind it
pub finds_then : {V W T U : Type 0} (Shown : V → T → Type 0) (Second Whole : W → U → Type 0) (read : ℕ → ℕ → Read T) (k : ℕ → ℕ → T → Read U) (end : ℕ) (v : V) (found : Result W Stop) (s r1 r2 : List ℕ)
    → length s ≤ end → length r1 ≤ length s → (h : Finds Shown (λ turns. read turns (place end s)) (Ok v) s r1)
    → Finds Second (λ turns. k turns (place end r1) h.0) found r1 r2 → ((w : W) (u : U) → Second w u → Whole w u)
    → Finds Whole (λ turns. bind_at (place end s) (read turns) (k turns)) found s r2
finds_then Shown Second Whole read k end v (Ok w) s r1 r2 room shrinks h g join = (
  g.0,
  join w g.0 g.1,
  λ turns lt.
      let d : place end s + (length s - length r1) ≡ place end r1 = omega arith in
      let e = h.2 turns lt in
      let f = g.2 turns (omega arith) in
      rw (e, d) f,
)
finds_then Shown Second Whole read k end v (Err Off) s r1 r2 room shrinks h g join = λ turns lt.
    let d : place end s + (length s - length r1) ≡ place end r1 = omega arith in
    let e = h.2 turns lt in
    let f = g turns (omega arith) in
    rw (e, d) f
finds_then Shown Second Whole read k end v (Err Memory) s r1 r2 room shrinks h g join = tt

-- a reading that comes down to another, of what is left
pub finds_as : {V T : Type 0} (Shown : V → T → Type 0) (read1 read2 : ℕ → Read T) (found : Result V Stop) (s1 s2 r : List ℕ)
    → length s1 ≤ length s2 → ((turns : ℕ) → read2 turns s2 ≡ read1 turns s1) → Finds Shown read1 found s1 r → Finds Shown read2 found s2 r
finds_as Shown read1 read2 (Ok v) s1 s2 r shrinks e h = (h.0, h.1, λ turns lt. e turns ∙ h.2 turns (omega arith))
finds_as Shown read1 read2 (Err Off) s1 s2 r shrinks e h = λ turns lt. e turns ∙ h turns (omega arith)
finds_as Shown read1 read2 (Err Memory) s1 s2 r shrinks e h = tt

-- a left side was put into the nodes, and the rest of the whole grew from it
pub puts_then_grows : (read : ℕ → ℕ → Read Tree) (k : ℕ → ℕ → Tree → Read Tree) (end end1 left : ℕ) (found : Result ℕ Stop) (s r1 r2 : List ℕ) (n0 n1 n2 : List Node)
    → length s ≤ end → length r1 ≤ length s → end1 ≡ end → Finds (Puts n0 n1) (λ turns. read turns (place end s)) (Ok left) s r1
    → ((x : Tree) → Shows n1 left x → Finds (Grows x n1 n2) (λ turns. k turns (place end1 r1) x) found r1 r2)
    → Finds (Puts n0 n2) (λ turns. bind_at (place end s) (read turns) (k turns)) found s r2
puts_then_grows read k end end1 left found s r1 r2 n0 n1 n2 room shrinks same h g =
    let more = rw same at (g h.0 h.1.shows) in
    finds_then (Puts n0 n1) (Grows h.0 n1 n2) (Puts n0 n2) read k end left found s r1 r2 room shrinks h more (λ w u grown. puts_grows n0 n1 n2 left w h.0 u h.1 grown)

pub grows_then_grows : (read : ℕ → ℕ → Read Tree) (k : ℕ → ℕ → Tree → Read Tree) (end end1 left : ℕ) (found : Result ℕ Stop) (s r1 r2 : List ℕ) (n0 n1 n2 : List Node) (x : Tree)
    → length s ≤ end → length r1 ≤ length s → end1 ≡ end → Finds (Grows x n0 n1) (λ turns. read turns (place end s)) (Ok left) s r1
    → ((y : Tree) → Shows n1 left y → Finds (Grows y n1 n2) (λ turns. k turns (place end1 r1) y) found r1 r2)
    → Finds (Grows x n0 n2) (λ turns. bind_at (place end s) (read turns) (k turns)) found s r2
grows_then_grows read k end end1 left found s r1 r2 n0 n1 n2 x room shrinks same h g =
    let more = rw same at (g h.0 h.1.puts.shows) in
    finds_then (Grows x n0 n1) (Grows h.0 n1 n2) (Grows x n0 n2) read k end left found s r1 r2 room shrinks h more (λ w u grown. grows_grows n0 n1 n2 left w x h.0 u h.1 grown)

-- blanks behind what was found
pub finds_blanks : {V : Type 0} (Shown : V → Tree → Type 0) (read : ℕ → Read Tree) (v : V) (s r1 r2 : List ℕ) → (w : List ℕ) × (blanks_at r1 ≡ (Some w, r2)) → Finds Shown read (Ok v) s r1 → Finds Shown (λ turns. then_blanks (read turns)) (Ok v) s r2
finds_blanks Shown read v s r1 r2 (w, e) h = (h.0, h.1, λ turns lt. let f = h.2 turns lt in rw (f, e) refl)

pub stops_blanks : {V : Type 0} (Shown : V → Tree → Type 0) (read : ℕ → Read Tree) (stop : Stop) (s r : List ℕ) → Finds Shown read (Err stop) s r → Finds Shown (λ turns. then_blanks (read turns)) (Err stop) s r
stops_blanks Shown read Off s r h = λ turns lt. let f = h turns lt in rw f refl
stops_blanks Shown read Memory s r h = tt

-- what `?` hands on
pub finds_residual : {V T : Type 0} (Shown : V → T → Type 0) (read : ℕ → Read T) (found : Result V Stop) (stop : Stop) (s r : List ℕ) → IsErrAnd found (λ e. e ≡ stop) → Finds Shown read (Err stop) s r → Finds Shown read found s r
finds_residual Shown read (Ok v) stop s r e h = absurd e
finds_residual Shown read (Err other) stop s r e h = rw e h

-- more is known of what was found than is told of it
pub finds_weaker : {V T : Type 0} (Shown Told : V → T → Type 0) (read : ℕ → Read T) (found : Result V Stop) (s r : List ℕ) → ((v : V) (t : T) → Shown v t → Told v t) → Finds Shown read found s r → Finds Told read found s r
finds_weaker Shown Told read (Ok v) s r weaker h = (h.0, weaker v h.0 h.1, h.2)
finds_weaker Shown Told read (Err Off) s r weaker h = h
finds_weaker Shown Told read (Err Memory) s r weaker h = tt
