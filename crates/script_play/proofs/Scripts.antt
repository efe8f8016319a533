-- Scripts read line by line.
use Rattle.std.proofs.Common.{◌≡◌, ℕ, suc, ◌+◌, Bool, true, false, cond, List, [], ◌∷◌, ◌++◌, length, Some, None, refl, sym, ◌∙◌, ap, subst, arith, append_assoc, add-zero}
use Rattle.std.specs.Prelude.{Option}
use Rattle.std.specs.Option.{option_map_or}
use Rattle.std.proofs.lemmas.List.{append-nil}
use Rattle.campaign_law.specs.declared.entry.Entry.{Entry}
use Rattle.campaign_law.specs.World.{World, replay}
use Rattle.script_play.specs.declared.run.Played.{Played}
use Rattle.script_play.specs.declared.run.Played.TheVariants.{Done, ReadFault, WriteFault, BadLine, TooLarge, Memory}
use Rattle.script_play.specs.Script.{Script, done, bad_line, too_large, ends, after_entries, entry_of_line, with_takens, is_past_limits, script_from}
use Rattle.script_play.specs.Played.{IsPrefix, HasEntered, IsLineStop}
use Rattle.script_play.proofs.Fronts.{replay-append, prefix_before}

-- ---- one line more

-- the script of a line that is past the limits or not, has this entry or none, and is followed by this
abbrev pub line_script : ℕ → Bool → Option Entry → (Entry → Script) → Script
line_script number past entry more = cond past (ends too_large) (option_map_or more entry (ends (bad_line number)))

-- what follows an entry
abbrev pub followed : World → ℕ → List (List ℕ) → Entry → Script
followed w number lines e = after_entries (with_takens w e) (script_from (replay w (with_takens w e)) (suc number) lines)

pub script_none : (w : World) (number : ℕ) → script_from w number [] ≡ ends done
unfolding script_from
script_none w number = refl

pub script_line : (w : World) (number : ℕ) (line : List ℕ) (lines : List (List ℕ)) → script_from w number (line ∷ lines) ≡ line_script number (is_past_limits number line) (entry_of_line w line) (followed w number lines)
unfolding script_from
script_line w number line lines = refl

after_both : (xs ys : List Entry) (script : Script) → after_entries xs (after_entries ys script) ≡ after_entries (xs ++ ys) script
after_both xs ys script = ap (λ es. record script { entries = es }) (sym (append_assoc xs ys script.entries))

-- the script of these lines and of more, where the first end as done
abbrev Appends : World → ℕ → List (List ℕ) → List (List ℕ) → Script → Script → Type 0
Appends w number lines more whole front = whole ≡ after_entries front.entries (script_from (replay w front.entries) (number + length lines) more)

append_line : (w : World) (number : ℕ) (line : List ℕ) (lines more : List (List ℕ)) (past : Bool) (entry : Option Entry) → ((e : Entry) → (script_from (replay w (with_takens w e)) (suc number) lines).ending ≡ done → Appends (replay w (with_takens w e)) (suc number) lines more (script_from (replay w (with_takens w e)) (suc number) (lines ++ more)) (script_from (replay w (with_takens w e)) (suc number) lines)) → (line_script number past entry (followed w number lines)).ending ≡ done → Appends w number (line ∷ lines) more (line_script number past entry (followed w number (lines ++ more))) (line_script number past entry (followed w number lines))
append_line w number line lines more true entry rest h = cc
append_line w number line lines more false None rest h = cc
append_line w number line lines more false (Some e) rest h =
    let ts : List Entry = with_takens w e in
    let now : World = replay w ts in
    let front : Script = script_from now (suc number) lines in
    let place : suc number + length lines ≡ number + length (line ∷ lines) = omega arith in
    ap (after_entries ts) (rest e h)
    ∙ after_both ts front.entries (script_from (replay now front.entries) (suc number + length lines) more)
    ∙ ap (λ w'. after_entries (ts ++ front.entries) (script_from w' (suc number + length lines) more)) (sym (replay-append w ts front.entries))
    ∙ ap (λ k. after_entries (ts ++ front.entries) (script_from (replay w (ts ++ front.entries)) k more)) place

script_append : (w : World) (number : ℕ) (lines more : List (List ℕ)) → (script_from w number lines).ending ≡ done → Appends w number lines more (script_from w number (lines ++ more)) (script_from w number lines)
script_append w number [] more h =
    ap (λ k. script_from w k more) (sym (add-zero number))
    ∙ sym (ap (λ (s : Script). after_entries s.entries (script_from (replay w s.entries) (number + 0) more)) (script_none w number))
script_append w number (line ∷ lines) more h =
    let whole : script_from w number (line ∷ (lines ++ more)) ≡ line_script number (is_past_limits number line) (entry_of_line w line) (followed w number (lines ++ more)) = script_line w number line (lines ++ more) in
    let front : script_from w number (line ∷ lines) ≡ line_script number (is_past_limits number line) (entry_of_line w line) (followed w number lines) = script_line w number line lines in
    let x = append_line w number line lines more (is_past_limits number line) (entry_of_line w line) (λ e k. script_append (replay w (with_takens w e)) (suc number) lines more k) (ap (λ (s : Script). s.ending) (sym front) ∙ h) in
    whole ∙ x ∙ sym (ap (λ (s : Script). after_entries s.entries (script_from (replay w s.entries) (number + length (line ∷ lines)) more)) front)

-- lines that were done, and more
pub script_goes_on : (w : World) (lines more : List (List ℕ)) (es : List Entry) (number : ℕ) → script_from w 1 lines ≡ record { entries = es; ending = done } → number ≡ 1 + length lines → script_from w 1 (lines ++ more) ≡ after_entries es (script_from (replay w es) number more)
script_goes_on w lines more es number is count =
    script_append w 1 lines more (ap (λ (s : Script). s.ending) is)
    ∙ ap (λ (s : Script). after_entries s.entries (script_from (replay w s.entries) (1 + length lines) more)) is
    ∙ ap (λ k. after_entries es (script_from (replay w es) k more)) (sym count)

-- ---- a script that stops at its first line

stop_prefix : (w : World) (number : ℕ) (more : List (List ℕ)) (es : List Entry) (past : Bool) (entry : Option Entry) → IsPrefix es (line_script number past entry (followed w number [])).entries → IsPrefix es (line_script number past entry (followed w number more)).entries
stop_prefix w number more es true entry p = p
stop_prefix w number more es false None p = p
stop_prefix w number more es false (Some e) p =
    let ts : List Entry = with_takens w e in
    let now : World = replay w ts in
    let none : ts ++ (script_from now (suc number) []).entries ≡ ts = ap (λ (s : Script). ts ++ s.entries) (script_none now (suc number)) ∙ append-nil ts in
    prefix_before (script_from now (suc number) more).entries (subst (IsPrefix es) none p)

stop_bad : (w : World) (number k : ℕ) (more : List (List ℕ)) (es : List Entry) (past : Bool) (entry : Option Entry) → line_script number past entry (followed w number []) ≡ record { entries = es; ending = bad_line k } → line_script number past entry (followed w number more) ≡ record { entries = es; ending = bad_line k }
stop_bad w number k more es true entry h = let e : too_large ≡ bad_line k = ap (λ (s : Script). s.ending) h in cc
stop_bad w number k more es false None h = h
stop_bad w number k more es false (Some e) h =
    let now : World = replay w (with_takens w e) in
    let z : done ≡ bad_line k = sym (ap (λ (s : Script). s.ending) (script_none now (suc number))) ∙ ap (λ (s : Script). s.ending) h in cc

stop_large : (w : World) (number : ℕ) (more : List (List ℕ)) (es : List Entry) (past : Bool) (entry : Option Entry) → line_script number past entry (followed w number []) ≡ record { entries = es; ending = too_large } → line_script number past entry (followed w number more) ≡ record { entries = es; ending = too_large }
stop_large w number more es true entry h = h
stop_large w number more es false None h = let e : bad_line number ≡ too_large = ap (λ (s : Script). s.ending) h in cc
stop_large w number more es false (Some e) h =
    let now : World = replay w (with_takens w e) in
    let z : done ≡ too_large = sym (ap (λ (s : Script). s.ending) (script_none now (suc number))) ∙ ap (λ (s : Script). s.ending) h in cc

prefix_at : (w : World) (number : ℕ) (line : List ℕ) (more : List (List ℕ)) (es : List Entry) → IsPrefix es (script_from w number (line ∷ [])).entries → IsPrefix es (script_from w number (line ∷ more)).entries
prefix_at w number line more es h =
    let P : Script → Type 0 = λ s. IsPrefix es s.entries in
    subst P (sym (script_line w number line more)) (stop_prefix w number more es (is_past_limits number line) (entry_of_line w line) (subst P (script_line w number line []) h))

pub stops_at_line : (p : Played) (w : World) (number : ℕ) (line : List ℕ) (more : List (List ℕ)) (es : List Entry) → IsLineStop p → HasEntered p (script_from w number (line ∷ [])) es → HasEntered p (script_from w number (line ∷ more)) es
stops_at_line Done w number line more es stop h = absurd stop
stops_at_line (BadLine k) w number line more es stop h = script_line w number line more ∙ stop_bad w number k more es (is_past_limits number line) (entry_of_line w line) (sym (script_line w number line []) ∙ h)
stops_at_line TooLarge w number line more es stop h = script_line w number line more ∙ stop_large w number more es (is_past_limits number line) (entry_of_line w line) (sym (script_line w number line []) ∙ h)
stops_at_line ReadFault w number line more es stop h = absurd stop
stops_at_line WriteFault w number line more es stop h = prefix_at w number line more es h
stops_at_line Memory w number line more es stop h = prefix_at w number line more es h

-- the first line is past the limits
pub past_limits_script : (w : World) (number : ℕ) (line : List ℕ) (lines : List (List ℕ)) → is_past_limits number line ≡ true → script_from w number (line ∷ lines) ≡ ends too_large
past_limits_script w number line lines h = script_line w number line lines ∙ ap (λ past. line_script number past (entry_of_line w line) (followed w number lines)) h
