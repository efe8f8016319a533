-- The entries of a script are as short as a log takes them.
use Rattle.std.proofs.Common.{◌≡◌, ℕ, zero, suc, ◌≤◌, ◌+◌, Bool, true, false, cond, eqb, List, [], ◌∷◌, ◌++◌, length, Some, None, refl, sym, ◌∙◌, ap, subst, arith, length-append}
use Rattle.std.specs.Prelude.{Option, Result, Ok, Err, option_and_then, nat_le, nat_lt, drop, take, position, unwrap_or, ◌==◌}
use Rattle.std.specs.List.{AllByRecursion}
use Rattle.std.specs.Int.{w64, to_be_bytes}
use Rattle.std.proofs.lemmas.Bool.Decides.{nat_tests}
use Rattle.line_io.specs.Script.{seat_number, with_command, parts_at, script_parts}
use Rattle.command_json.specs.declared.command.Command.{Command}
use Rattle.command_json.specs.declared.command.Command.TheVariants.{Hello}
use Rattle.command_json.specs.declared.command.LineFault.{LineFault}
use Rattle.command_json.specs.Commands.{command_of}
use Rattle.command_json.specs.Limits.{IsCommand}
use Rattle.command_json.proofs.Limits.{keeps_limits}
use Rattle.campaign_law.specs.declared.entry.Entry.{Entry}
use Rattle.campaign_law.specs.declared.entry.Entry.TheVariants.{Taken}
use Rattle.campaign_law.specs.Hellos.{hello_part}
use Rattle.campaign_law.specs.Seat.{Seat, was_joined}
use Rattle.campaign_law.specs.World.{World, seat_at}
use Rattle.crash_log.specs.Entries.{entry_bytes}
use Rattle.script_play.specs.Script.{key_for, joining_key, entry_by, entry_of, taken_of, takens_below, takens}
use Rattle.script_play.specs.Played.{IsOfLine}

-- ---- the command of a line

within : (seat : ℕ) (command : List ℕ) (parts : ℕ × List ℕ) (short : Bool) → nat_le (length command) 4096 ≡ short → cond short (Some (seat, command)) None ≡ Some parts → length parts.1 ≤ 4096
within seat command parts true s h =
    let same : command ≡ parts.1 = ap (λ (o : Option (ℕ × List ℕ)). (unwrap_or o parts).1) h in
    subst (λ (l : List ℕ). length l ≤ 4096) same (grind (arith, nat_tests))
within seat command parts false s h = cc

with_short : (number : Option ℕ) (command : List ℕ) (parts : ℕ × List ℕ) → with_command number command ≡ Some parts → length parts.1 ≤ 4096
with_short None command parts h = cc
with_short (Some seat) command parts h = within seat command parts (nat_le (length command) 4096) refl h

at_short : (line : List ℕ) (at : Option ℕ) (parts : ℕ × List ℕ) → parts_at line at ≡ Some parts → length parts.1 ≤ 4096
at_short line None parts h = cc
at_short line (Some at) parts h = with_short (seat_number (take at line)) (drop (at + 1) line) parts h

-- ---- the key of a hello

hello_is : (r : Result Command LineFault) (hello : ℕ × List ℕ) → hello_part r ≡ Some hello → r ≡ Ok (Hello hello.0 hello.1)
hello_is (Ok (Hello seat key)) hello h =
    let same : (seat, key) ≡ hello = ap (λ (o : Option (ℕ × List ℕ)). unwrap_or o hello) h in
    λ i. Ok (Hello (same i).0 (same i).1)
hello_is (Ok command) hello h = cc
hello_is (Err fault) hello h = cc

own_short : (bytes : List ℕ) (gm : Bool) (seat : ℕ) (key : List ℕ) (part : Option (ℕ × List ℕ)) → hello_part (command_of bytes gm) ≡ part → key_for seat part ≡ Some key → length key ≤ 64
own_short bytes gm seat key None is h = cc
own_short bytes gm seat key (Some hello) is h = by (eqb hello.0 seat) h
  where
    by : (own : Bool) → cond own (Some hello.1) None ≡ Some key → length key ≤ 64
    by true h =
        let same : hello.1 ≡ key = ap (λ (o : Option (List ℕ)). unwrap_or o key) h in
        subst (λ (l : List ℕ). length l ≤ 64) same (keeps_limits bytes gm (Hello hello.0 hello.1) (hello_is (command_of bytes gm) hello is)).at_most
    by false h = cc

key_short : (w : World) (seat : ℕ) (bytes key : List ℕ) → joining_key w seat bytes ≡ Some key → length key ≤ 64
key_short w seat bytes key h = by (was_joined (seat_at w seat)) h
  where
    by : (joined : Bool) → cond joined None (key_for seat (hello_part (command_of bytes (seat == 0)))) ≡ Some key → length key ≤ 64
    by true h = cc
    by false h = own_short bytes (seat == 0) seat key (hello_part (command_of bytes (seat == 0))) refl h

-- ---- the entry of a line

eight : (n : ℕ) → length (to_be_bytes w64 n) ≡ 8
eight n = refl

by_short : (seat : ℕ) (bytes : List ℕ) (key : Option (List ℕ)) → length bytes ≤ 4096 → ((k : List ℕ) → key ≡ Some k → length k ≤ 64) → length (entry_bytes (entry_by seat bytes key)) ≤ 4098
by_short seat bytes None short keys = omega arith
by_short seat bytes (Some key) short keys =
    let one = length-append (to_be_bytes w64 seat) (to_be_bytes w64 seat ++ key) in
    let two = length-append (to_be_bytes w64 seat) key in
    let size = eight seat in
    let small = keys key refl in
    omega (arith, one, two, size, small)

of_parts : (w : World) (e : Entry) (parts : ℕ × List ℕ) (there : Bool) → length parts.1 ≤ 4096 → cond there (Some (entry_of w parts.0 parts.1)) None ≡ Some e → length (entry_bytes e) ≤ 4098
of_parts w e parts true short h =
    let same : entry_of w parts.0 parts.1 ≡ e = ap (λ (o : Option Entry). unwrap_or o e) h in
    subst (λ (x : Entry). length (entry_bytes x) ≤ 4098) same (by_short parts.0 parts.1 (joining_key w parts.0 parts.1) short (λ k is. key_short w parts.0 parts.1 k is))
of_parts w e parts false short h = cc

of_line : (w : World) (e : Entry) (line : List ℕ) (parts : Option (ℕ × List ℕ)) → script_parts line ≡ parts → option_and_then (λ (p : ℕ × List ℕ). cond (nat_lt p.0 (length w.seats)) (Some (entry_of w p.0 p.1)) None) parts ≡ Some e → length (entry_bytes e) ≤ 4098
of_line w e line None is h = cc
of_line w e line (Some parts) is h = of_parts w e parts (nat_lt parts.0 (length w.seats)) (at_short line (position (λ byte. byte == 32) line) parts is) h

pub line_short : (w : World) (e : Entry) → IsOfLine w e → length (entry_bytes e) ≤ 4098
line_short w e l = of_line w e l.line (script_parts l.line) refl l.is

-- ---- what is taken

abbrev pub IsShort : Entry → Type 0
IsShort e = length (entry_bytes e) ≤ 4098

all_both : (xs ys : List Entry) → AllByRecursion IsShort xs → AllByRecursion IsShort ys → AllByRecursion IsShort (xs ++ ys)
all_both [] ys a b = b
all_both (x ∷ xs) ys a b = (a.0, all_both xs ys a.1 b)

taken_short : (seat : ℕ) (before : Option Seat) → AllByRecursion IsShort (taken_of seat before)
taken_short seat None = tt
taken_short seat (Some s) = by (eqb s.taken s.queued)
  where
    by : (all : Bool) → AllByRecursion IsShort (cond all [] (Taken seat s.queued ∷ []))
    by true = tt
    by false = (let size = eight s.queued in omega (arith, size), tt)

below_short : (w : World) (n : ℕ) → AllByRecursion IsShort (takens_below w n)
below_short w zero = tt
below_short w (suc n) = all_both (takens_below w n) (taken_of n (seat_at w n)) (below_short w n) (taken_short n (seat_at w n))

pub takens_short : (w : World) → AllByRecursion IsShort (takens w)
unfolding takens
takens_short w = below_short w (length w.seats)

-- the next of some that are short
pub next_short : (front rest : List Entry) (e : Entry) (all : List Entry) → front ++ e ∷ rest ≡ all → AllByRecursion IsShort all → IsShort e
next_short front rest e all is h = of front (subst (AllByRecursion IsShort) (sym is) h)
  where
    of : (front : List Entry) → AllByRecursion IsShort (front ++ e ∷ rest) → IsShort e
    of [] h = h.0
    of (x ∷ front) h = of front h.1
