-- What stands in a list of nodes still stands there when nodes are put behind it.
use Rattle.std.proofs.Common.{◌≡◌, ℕ, zero, suc, ◌<◌, List, [], ◌∷◌, ◌++◌, length, Some, refl, sym, append_assoc, append-nil, arith}
use Rattle.std.specs.Prelude.{slice_get}
use Rattle.std.specs.Global.{Vec}
use Rattle.std.proofs.lemmas.List.Elements.{All-append}
use Rattle.dice_parse.specs.declared.parts.Group.{Group}
use Rattle.macro_parse.specs.declared.nodes.Node.{Node}
use Rattle.macro_parse.specs.declared.nodes.Node.TheVariants.{Number as NumberNode, Dice as DiceNode, Quoted as QuotedNode, Name as NameNode, Call as CallNode, Negated as NegatedNode, Inverted as InvertedNode, Binary as BinaryNode, Assigned as AssignedNode}
use Rattle.macro_parse.specs.declared.nodes.Arguments.TheVariants.{Nothing, One, Two, Three}
use Rattle.macro_grammar.specs.declared.words.Operator.{Operator}
use Rattle.macro_grammar.specs.declared.words.Function.{Function}
use Rattle.macro_grammar.specs.Tree.{Tree, Number, Dice, Quoted, Name, Call0, Call1, Call2, Call3, Negated, Inverted, Binary, Assigned}
use Rattle.macro_parse.specs.Flat.{Shows, Keeps, Kept, NodeFits, NodesFit, Puts, Grows}

get_in : (xs : List Node) (i : ℕ) (x : Node) → slice_get xs i ≡ Some x → i < length xs
get_in [] i x e = absurd cc
get_in (y ∷ xs) zero x e = omega arith
get_in (y ∷ xs) (suc i) x e = let k = get_in xs i x e in omega arith

pub shown_in : (xs : List Node) (i : ℕ) (t : Tree) → Shows xs i t → i < length xs
shown_in xs i (Number at n) h = get_in xs i (NumberNode at n) h
shown_in xs i (Dice at g) h = get_in xs i (DiceNode at g) h
shown_in xs i (Quoted at m) h = get_in xs i (QuotedNode at m) h
shown_in xs i (Name at name) (v, e, f) = get_in xs i (NameNode at v) e
shown_in xs i (Call0 at f) h = get_in xs i (CallNode at f Nothing) h
shown_in xs i (Call1 at f x) (j, lt, e, h) = get_in xs i (CallNode at f (One j)) e
shown_in xs i (Call2 at f x y) (j, k, lt, lt2, e, h, g) = get_in xs i (CallNode at f (Two j k)) e
shown_in xs i (Call3 at f x y z) (j, k, l, lt, lt2, lt3, e, h, g, m) = get_in xs i (CallNode at f (Three j k l)) e
shown_in xs i (Negated at t) (j, lt, e, h) = get_in xs i (NegatedNode at j) e
shown_in xs i (Inverted at t) (j, lt, e, h) = get_in xs i (InvertedNode at j) e
shown_in xs i (Binary at o l r) (j, k, lt, lt2, e, h, g) = get_in xs i (BinaryNode at o j k) e
shown_in xs i (Assigned at name t) (v, j, lt, e, f, h) = get_in xs i (AssignedNode at v j) e

get_more : (xs ys : List Node) (i : ℕ) (x : Node) → slice_get xs i ≡ Some x → slice_get (xs ++ ys) i ≡ Some x
get_more [] ys i x e = absurd cc
get_more (y ∷ xs) ys zero x e = e
get_more (y ∷ xs) ys (suc i) x e = get_more xs ys i x e

get_last : (xs : List Node) (x : Node) → slice_get (xs ++ (x ∷ [])) (length xs) ≡ Some x
get_last [] x = refl
get_last (y ∷ xs) x = get_last xs x

shows_more : (xs ys : List Node) (i : ℕ) (t : Tree) → Shows xs i t → Shows (xs ++ ys) i t
shows_more xs ys i (Number at n) h = get_more xs ys i (NumberNode at n) h
shows_more xs ys i (Dice at g) h = get_more xs ys i (DiceNode at g) h
shows_more xs ys i (Quoted at m) h = get_more xs ys i (QuotedNode at m) h
shows_more xs ys i (Name at name) (v, e, f) = (v, get_more xs ys i (NameNode at v) e, f)
shows_more xs ys i (Call0 at f) h = get_more xs ys i (CallNode at f Nothing) h
shows_more xs ys i (Call1 at f x) (j, lt, e, h) = (j, lt, get_more xs ys i (CallNode at f (One j)) e, shows_more xs ys j x h)
shows_more xs ys i (Call2 at f x y) (j, k, lt, lt2, e, h, g) = (j, k, lt, lt2, get_more xs ys i (CallNode at f (Two j k)) e, shows_more xs ys j x h, shows_more xs ys k y g)
shows_more xs ys i (Call3 at f x y z) (j, k, l, lt, lt2, lt3, e, h, g, m) = (j, k, l, lt, lt2, lt3, get_more xs ys i (CallNode at f (Three j k l)) e, shows_more xs ys j x h, shows_more xs ys k y g, shows_more xs ys l z m)
shows_more xs ys i (Negated at t) (j, lt, e, h) = (j, lt, get_more xs ys i (NegatedNode at j) e, shows_more xs ys j t h)
shows_more xs ys i (Inverted at t) (j, lt, e, h) = (j, lt, get_more xs ys i (InvertedNode at j) e, shows_more xs ys j t h)
shows_more xs ys i (Binary at o l r) (j, k, lt, lt2, e, h, g) = (j, k, lt, lt2, get_more xs ys i (BinaryNode at o j k) e, shows_more xs ys j l h, shows_more xs ys k r g)
shows_more xs ys i (Assigned at name t) (v, j, lt, e, f, h) = (v, j, lt, get_more xs ys i (AssignedNode at v j) e, f, shows_more xs ys j t h)

pub shows_kept : (xs zs : List Node) (i : ℕ) (t : Tree) → Keeps xs zs → Shows xs i t → Shows zs i t
shows_kept xs zs i t k h = let e = k.1 in rw e (shows_more xs k.0 i t h)

pub keeps_itself : (xs : List Node) → Keeps xs xs
keeps_itself xs = ([], sym (append-nil xs))

pub keeps_then : (xs ys zs : List Node) → Keeps xs ys → Keeps ys zs → Keeps xs zs
keeps_then xs ys zs h g = (h.0 ++ g.0, let e = h.1 in let f = g.1 in rw (f, e) (append_assoc xs h.0 g.0))

-- ---- a node that is put at the end

kept_get : (xs zs : List Node) (i : ℕ) (n : Node) → Kept xs zs i n → slice_get zs i ≡ Some n
kept_get xs zs i n k = let e = k.at_end in let f = k.items in rw (f, e) (get_last xs n)

kept_keeps : (xs zs : List Node) (i : ℕ) (n : Node) → Kept xs zs i n → Keeps xs zs
kept_keeps xs zs i n k = (n ∷ [], k.items)

kept_shows : (xs zs : List Node) (i j : ℕ) (n : Node) (t : Tree) → Kept xs zs i n → Shows xs j t → (j < i) × Shows zs j t
kept_shows xs zs i j n t k h = let e = k.at_end in let lt = shown_in xs j t h in (omega arith, shows_kept xs zs j t (kept_keeps xs zs i n k) h)

fits_one : (n : Node) → NodeFits n → NodesFit (n ∷ [])
fits_one n h zero d lt = h
fits_one n h (suc k) d lt = absurd (omega arith)

kept_fits : (xs zs : List Node) (i : ℕ) (n : Node) → Kept xs zs i n → NodesFit xs → NodeFits n → NodesFit zs
kept_fits xs zs i n k f g = let e = k.items in rw e (All-append NodeFits xs (n ∷ []) f (fits_one n g))

pub put_number : (xs zs : List Node) (i at n : ℕ) → Kept xs zs i (NumberNode at n) → Puts xs zs i (Number at n)
put_number xs zs i at n k = record { shows = kept_get xs zs i (NumberNode at n) k; keeps = kept_keeps xs zs i (NumberNode at n) k; fits = λ f d. kept_fits xs zs i (NumberNode at n) k f tt }

pub put_dice : (xs zs : List Node) (i at : ℕ) (g : Group) → Kept xs zs i (DiceNode at g) → Puts xs zs i (Dice at g)
put_dice xs zs i at g k = record { shows = kept_get xs zs i (DiceNode at g) k; keeps = kept_keeps xs zs i (DiceNode at g) k; fits = λ f d. kept_fits xs zs i (DiceNode at g) k f d }

pub put_quoted : (xs zs : List Node) (i at : ℕ) (m : List ℕ) → Kept xs zs i (QuotedNode at m) → Puts xs zs i (Quoted at m)
put_quoted xs zs i at m k = record { shows = kept_get xs zs i (QuotedNode at m) k; keeps = kept_keeps xs zs i (QuotedNode at m) k; fits = λ f d. kept_fits xs zs i (QuotedNode at m) k f tt }

pub put_name : (xs zs : List Node) (i at : ℕ) (v : Vec ℕ) → Kept xs zs i (NameNode at v) → Puts xs zs i (Name at v.items)
put_name xs zs i at v k = record { shows = (v, kept_get xs zs i (NameNode at v) k, refl); keeps = kept_keeps xs zs i (NameNode at v) k; fits = λ f d. kept_fits xs zs i (NameNode at v) k f tt }

pub put_call0 : (xs zs : List Node) (i at : ℕ) (f : Function) → Kept xs zs i (CallNode at f Nothing) → Puts xs zs i (Call0 at f)
put_call0 xs zs i at f k = record { shows = kept_get xs zs i (CallNode at f Nothing) k; keeps = kept_keeps xs zs i (CallNode at f Nothing) k; fits = λ g d. kept_fits xs zs i (CallNode at f Nothing) k g tt }

-- ---- behind what was put before

pub put_call1 : (xs ys zs : List Node) (i at j : ℕ) (f : Function) (x : Tree) → Puts xs ys j x → Kept ys zs i (CallNode at f (One j)) → Puts xs zs i (Call1 at f x)
put_call1 xs ys zs i at j f x p k =
    let n = CallNode at f (One j) in
    let a = kept_shows ys zs i j n x k p.shows in
    record {
      shows = (j, a.0, kept_get ys zs i n k, a.1);
      keeps = keeps_then xs ys zs p.keeps (kept_keeps ys zs i n k);
      fits = λ h d. kept_fits ys zs i n k (p.fits h d) tt;
    }

pub put_call2 : (xs ys ws zs : List Node) (i at j l : ℕ) (f : Function) (x y : Tree) → Puts xs ys j x → Puts ys ws l y → Kept ws zs i (CallNode at f (Two j l)) → Puts xs zs i (Call2 at f x y)
put_call2 xs ys ws zs i at j l f x y p q k =
    let n = CallNode at f (Two j l) in
    let a = kept_shows ws zs i j n x k (shows_kept ys ws j x q.keeps p.shows) in
    let b = kept_shows ws zs i l n y k q.shows in
    record {
      shows = (j, l, a.0, b.0, kept_get ws zs i n k, a.1, b.1);
      keeps = keeps_then xs ws zs (keeps_then xs ys ws p.keeps q.keeps) (kept_keeps ws zs i n k);
      fits = λ h d. kept_fits ws zs i n k (q.fits (p.fits h d.0) d.1) tt;
    }

pub put_call3 : (xs ys ws vs zs : List Node) (i at j l m : ℕ) (f : Function) (x y z : Tree) → Puts xs ys j x → Puts ys ws l y → Puts ws vs m z → Kept vs zs i (CallNode at f (Three j l m)) → Puts xs zs i (Call3 at f x y z)
put_call3 xs ys ws vs zs i at j l m f x y z p q r k =
    let n = CallNode at f (Three j l m) in
    let a = kept_shows vs zs i j n x k (shows_kept ws vs j x r.keeps (shows_kept ys ws j x q.keeps p.shows)) in
    let b = kept_shows vs zs i l n y k (shows_kept ws vs l y r.keeps q.shows) in
    let c = kept_shows vs zs i m n z k r.shows in
    record {
      shows = (j, l, m, a.0, b.0, c.0, kept_get vs zs i n k, a.1, b.1, c.1);
      keeps = keeps_then xs vs zs (keeps_then xs ws vs (keeps_then xs ys ws p.keeps q.keeps) r.keeps) (kept_keeps vs zs i n k);
      fits = λ h d. kept_fits vs zs i n k (r.fits (q.fits (p.fits h d.0) d.1) d.2) tt;
    }

pub put_negated : (xs ys zs : List Node) (i at j : ℕ) (t : Tree) → Puts xs ys j t → Kept ys zs i (NegatedNode at j) → Puts xs zs i (Negated at t)
put_negated xs ys zs i at j t p k =
    let n = NegatedNode at j in
    let a = kept_shows ys zs i j n t k p.shows in
    record {
      shows = (j, a.0, kept_get ys zs i n k, a.1);
      keeps = keeps_then xs ys zs p.keeps (kept_keeps ys zs i n k);
      fits = λ h d. kept_fits ys zs i n k (p.fits h d) tt;
    }

pub put_inverted : (xs ys zs : List Node) (i at j : ℕ) (t : Tree) → Puts xs ys j t → Kept ys zs i (InvertedNode at j) → Puts xs zs i (Inverted at t)
put_inverted xs ys zs i at j t p k =
    let n = InvertedNode at j in
    let a = kept_shows ys zs i j n t k p.shows in
    record {
      shows = (j, a.0, kept_get ys zs i n k, a.1);
      keeps = keeps_then xs ys zs p.keeps (kept_keeps ys zs i n k);
      fits = λ h d. kept_fits ys zs i n k (p.fits h d) tt;
    }

pub put_assigned : (xs ys zs : List Node) (i at j : ℕ) (v : Vec ℕ) (t : Tree) → Puts xs ys j t → Kept ys zs i (AssignedNode at v j) → Puts xs zs i (Assigned at v.items t)
put_assigned xs ys zs i at j v t p k =
    let n = AssignedNode at v j in
    let a = kept_shows ys zs i j n t k p.shows in
    record {
      shows = (v, j, a.0, kept_get ys zs i n k, refl, a.1);
      keeps = keeps_then xs ys zs p.keeps (kept_keeps ys zs i n k);
      fits = λ h d. kept_fits ys zs i n k (p.fits h d) tt;
    }

-- the left side stood in the old nodes
pub put_binary : (xs ys zs : List Node) (i at j l : ℕ) (o : Operator) (x y : Tree) → Shows xs j x → Puts xs ys l y → Kept ys zs i (BinaryNode at o j l) → Grows x xs zs i (Binary at o x y)
put_binary xs ys zs i at j l o x y h q k =
    let n = BinaryNode at o j l in
    let a = kept_shows ys zs i j n x k (shows_kept xs ys j x q.keeps h) in
    let b = kept_shows ys zs i l n y k q.shows in
    record {
      puts = record {
        shows = (j, l, a.0, b.0, kept_get ys zs i n k, a.1, b.1);
        keeps = keeps_then xs ys zs q.keeps (kept_keeps ys zs i n k);
        fits = λ g d. kept_fits ys zs i n k (q.fits g d.1) tt;
      };
      part = λ d. d.0;
    }

-- ---- one behind the other

pub grows_itself : (xs : List Node) (i : ℕ) (x : Tree) → Shows xs i x → Grows x xs xs i x
grows_itself xs i x h = record { puts = record { shows = h; keeps = keeps_itself xs; fits = λ g d. g }; part = λ d. d }

pub puts_grows : (xs ys zs : List Node) (j i : ℕ) (x t : Tree) → Puts xs ys j x → Grows x ys zs i t → Puts xs zs i t
puts_grows xs ys zs j i x t p g = record {
  shows = g.puts.shows;
  keeps = keeps_then xs ys zs p.keeps g.puts.keeps;
  fits = λ h d. g.puts.fits (p.fits h (g.part d)) d;
}

pub grows_grows : (xs ys zs : List Node) (j i : ℕ) (x y t : Tree) → Grows x xs ys j y → Grows y ys zs i t → Grows x xs zs i t
grows_grows xs ys zs j i x y t p g = record { puts = puts_grows xs ys zs j i y t p.puts g; part = λ d. p.part (g.part d) }
