-- Reading the items of a list, or the members of an object, one after the other, as a loop does.
use Rattle.std.proofs.Common.{◌≡◌, ℕ, ◌+◌, ◌<◌, ◌≤◌, suc, zero, List, [], ◌∷◌, length, drop, get_or, Result, Ok, Err, refl, sym, ap, ◌∙◌, arith, decimal, subst}
use Rattle.std.specs.Prelude.{String, string_bytes}
use Rattle.std.specs.declared.alloc.Global.{Global}
use Rattle.std.proofs.lemmas.List.{drop_all, drop_more}
use Rattle.serde_json.specs.Data.{Data}
use Rattle.serde_json.specs.View.{view, items_view, members_view}
use Rattle.serde_json.specs.declared.value.Value.{Value}
use Rattle.json_fields.specs.Objects.{◌>>=◌}
use Rattle.campaign_json.specs.declared.faults.BadCampaign.{BadCampaign}
use Rattle.campaign_json.specs.declared.faults.FileFault.{FileFault}
use Rattle.campaign_json.specs.declared.faults.FileFault.TheVariants.{Bad, Memory}
use Rattle.campaign_json.specs.Reading.{pointer, escaped, under, each, each_member, IsBreach, LiesIn, Fails}

-- ---- breaches of parts

pub is_breach : {S : Type 0} (breach : BadCampaign) (fault : FileFault) (read : Result S BadCampaign) → read ≡ Err breach → IsBreach breach fault → Fails fault read
is_breach breach (Bad bad) read e is = e ∙ ap Err (sym is)
is_breach breach Memory read e is = tt

-- what is left to read begins with a part that breaks a rule
fails_in : {S T : Type 0} (key token : List ℕ) (part : Result T BadCampaign) (next : T → Result S BadCampaign) (left total : Result S BadCampaign) (fault found : FileFault)
    → left ≡ (under token part >>= next) → left ≡ total → Fails found part → LiesIn key token found fault → Fails fault (under key total)
fails_in key token part next left total fault (Bad bad) begins so_far e lies =
    is_breach (record { path = pointer key (pointer token bad.path); rule = bad.rule }) fault (under key total)
    (ap (under key) (sym so_far ∙ begins) ∙ ap (λ r. under key (under token r >>= next)) e) lies
fails_in key token part next left total fault Memory begins so_far e lies = subst (λ f. Fails f (under key total)) (sym lies) tt

-- ---- items

-- what a loop over the items of a list keeps at a place: f of what is read stays
pub record IsReadTo {S K : Type 0} (read : ℕ → S → Data → Result S BadCampaign) (f : S → K) (values : List Value) (start : S) (place : ℕ) (now : S) : Type 0 where
  pub so_far : each read place now (items_view (drop place values)) ≡ each read 0 start (items_view values)
  pub kept : f now ≡ f start

at_place : {S : Type 0} (read : ℕ → S → Data → Result S BadCampaign) (place : ℕ) (now : S) (vs : List Value) (v : Value) → place < length vs → v ≡ get_or vs place v
    → each read place now (items_view (drop place vs)) ≡ (under (decimal place) (read place now (view v)) >>= λ next. each read (place + 1) next (items_view (drop (place + 1) vs)))
at_place read place now vs v lt e = ap (λ (l : List Value). each read place now (items_view l)) (drop_more vs place v lt ∙ ap (λ (x : Value). x ∷ drop (place + 1) vs) (sym e))

pub read_more : {S K : Type 0} (read : ℕ → S → Data → Result S BadCampaign) (f : S → K) (values : List Value) (start : S) (place : ℕ) (now next : S) (value : Value) → IsReadTo read f values start place now
    → place < length values → value ≡ get_or values place value → read place now (view value) ≡ Ok next → f next ≡ f now → IsReadTo read f values start (place + 1) next
read_more read f values start place now next value before lt is ok same = record {
  so_far = sym (at_place read place now values value lt is ∙ ap (λ r. under (decimal place) r >>= λ after. each read (place + 1) after (items_view (drop (place + 1) values))) ok) ∙ before.so_far;
  kept = same ∙ before.kept;
}

pub read_stops : {S K : Type 0} (key : List ℕ) (read : ℕ → S → Data → Result S BadCampaign) (f : S → K) (values : List Value) (start : S) (place : ℕ) (now : S) (value : Value) (found fault : FileFault)
    → IsReadTo read f values start place now → place < length values → value ≡ get_or values place value → Fails found (read place now (view value)) → LiesIn key (decimal place) found fault
    → Fails fault (under key (each read 0 start (items_view values)))
read_stops key read f values start place now value found fault before lt is e lies =
    fails_in key (decimal place) (read place now (view value)) (λ next. each read (place + 1) next (items_view (drop (place + 1) values))) (each read place now (items_view (drop place values)))
    (each read 0 start (items_view values)) fault found (at_place read place now values value lt is) before.so_far e lies

pub read_ends : {S K : Type 0} (key : List ℕ) (read : ℕ → S → Data → Result S BadCampaign) (f : S → K) (values : List Value) (start : S) (place : ℕ) (now : S) → IsReadTo read f values start place now
    → length values ≤ place → under key (each read 0 start (items_view values)) ≡ Ok now
read_ends key read f values start place now before end =
    ap (under key) (sym before.so_far) ∙ ap (λ (l : List Value). under key (each read place now (items_view l))) (drop_all place values end)

-- ---- members

-- the same of a loop over the members of an object, of which some are left
pub record IsReadOn {S K : Type 0} (read : List ℕ → S → Data → Result S BadCampaign) (f : S → K) (entries : List (String Global × Value)) (start : S) (left : List (String Global × Value)) (now : S) : Type 0 where
  pub so_far : each_member read now (members_view left) ≡ each_member read start (members_view entries)
  pub kept : f now ≡ f start

at_member : {S : Type 0} (read : List ℕ → S → Data → Result S BadCampaign) (now : S) (key : String Global) (value : Value) (left rest : List (String Global × Value)) → left ≡ (key, value) ∷ rest
    → each_member read now (members_view left) ≡ (under (escaped (string_bytes key)) (read (string_bytes key) now (view value)) >>= λ next. each_member read next (members_view rest))
at_member read now key value left rest e = ap (λ (l : List (String Global × Value)). each_member read now (members_view l)) e

pub member_more : {S K : Type 0} (read : List ℕ → S → Data → Result S BadCampaign) (f : S → K) (entries : List (String Global × Value)) (start : S) (left rest : List (String Global × Value)) (now next : S) (key : String Global) (value : Value)
    → IsReadOn read f entries start left now → left ≡ (key, value) ∷ rest → read (string_bytes key) now (view value) ≡ Ok next → f next ≡ f now → IsReadOn read f entries start rest next
member_more read f entries start left rest now next key value before e ok same = record {
  so_far = sym (at_member read now key value left rest e ∙ ap (λ r. under (escaped (string_bytes key)) r >>= λ after. each_member read after (members_view rest)) ok) ∙ before.so_far;
  kept = same ∙ before.kept;
}

pub member_stops : {S K : Type 0} (outer : List ℕ) (read : List ℕ → S → Data → Result S BadCampaign) (f : S → K) (entries : List (String Global × Value)) (start : S) (left rest : List (String Global × Value)) (now : S) (key : String Global) (value : Value)
    (found fault : FileFault) → IsReadOn read f entries start left now → left ≡ (key, value) ∷ rest → Fails found (read (string_bytes key) now (view value)) → LiesIn outer (escaped (string_bytes key)) found fault
    → Fails fault (under outer (each_member read start (members_view entries)))
member_stops outer read f entries start left rest now key value found fault before e fails lies =
    fails_in outer (escaped (string_bytes key)) (read (string_bytes key) now (view value)) (λ next. each_member read next (members_view rest)) (each_member read now (members_view left))
    (each_member read start (members_view entries)) fault found (at_member read now key value left rest e) before.so_far fails lies

pub member_ends : {S K : Type 0} (outer : List ℕ) (read : List ℕ → S → Data → Result S BadCampaign) (f : S → K) (entries : List (String Global × Value)) (start : S) (left : List (String Global × Value)) (now : S)
    → IsReadOn read f entries start left now → left ≡ [] → under outer (each_member read start (members_view entries)) ≡ Ok now
member_ends outer read f entries start left now before e = ap (under outer) (sym before.so_far) ∙ ap (λ (l : List (String Global × Value)). under outer (each_member read now (members_view l))) e
