-- A part that is written in many steps.
use Rattle.std.proofs.Common.{◌≡◌, ◌∙◌, List, [], ◌∷◌, ◌++◌, Ok, Err, OnOk, refl, sym, ap, append_assoc}
use Rattle.std.specs.Prelude.{Result}
use Rattle.json.specs.Token.{Token}
use Rattle.json.specs.Written.{Written, Writes}
use Rattle.json_lines.specs.Added.{Adds}

-- with what is left, the whole stands behind what stood there first
pub record IsLeft (first : Written) (whole : List Token) (now : Written) (left : List Token) : Type 0 where
  pub before : now.before ≡ first.before
  pub tokens : now.tokens ++ left ≡ first.tokens ++ whole

module _ {first : Written} {whole : List Token} where
  pub all_left : {ts : List Token} → whole ≡ ts → IsLeft first whole first ts
  all_left e = record { before = refl; tokens = ap (λ ts. first.tokens ++ ts) (sym e) }

  pub then_part : {old new : Written} {ts left : List Token} → Adds old new ts → IsLeft first whole old (ts ++ left) → IsLeft first whole new left
  then_part {old} {new} {ts} {left} a l = record {
    before = a.before ∙ l.before;
    tokens = ap (λ us. us ++ left) a.tokens ∙ append_assoc old.tokens ts left ∙ l.tokens;
  }

  pub then_token : {E : Type 0} {old new : Written} {t : Token} {left : List Token} {u : Unit {0}} → Writes {E = E} (Ok u) old new t → IsLeft first whole old (t ∷ left) → IsLeft first whole new left
  then_token {old} {new} {t} {left} w l = then_part {ts = t ∷ []} (record { before = w.room.0; tokens = w.ok }) l

  pub and_part : {E : Type 0} (old new : Written) (ts : List Token) (r : Result (Unit {0}) E) → OnOk r (Adds old new ts) → IsLeft first whole old ts → OnOk r (Adds first new whole)
  and_part old new ts (Ok u) a l = record { before = a.before ∙ l.before; tokens = a.tokens ∙ l.tokens }
  and_part old new ts (Err e) a l = tt

  pub and_token : {E : Type 0} {old new : Written} {t : Token} (r : Result (Unit {0}) E) → Writes r old new t → IsLeft first whole old (t ∷ []) → OnOk r (Adds first new whole)
  and_token {E} {old} {new} {t} (Ok u) w l = and_part {E = E} old new (t ∷ []) (Ok u) (record { before = w.room.0; tokens = w.ok }) l
  and_token (Err e) w l = tt
