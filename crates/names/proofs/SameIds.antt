-- The tests of tags and ids are true exactly of equal ones.
use Rattle.std.proofs.Common.{◌≡◌, eqb, ap}
use Rattle.std.specs.Bool.{Decides}
use Rattle.std.specs.Str.{bytes_eq}
use Rattle.std.proofs.lemmas.Bool.Decides.{Decides-eqb, Decides-and, Decides-like}
use Rattle.std.proofs.lemmas.Slice.Eq.{bytes_eq-Decides}
use Rattle.names.specs.declared.token_id.TokenId.{TokenId}
use Rattle.names.specs.TokenId.{id_eq}

pub id_eq-Decides : (a b : TokenId) → Decides (id_eq a b) (a ≡ b)
id_eq-Decides a b = Decides-like (id_eq a b)
    (λ (p : (a.maker ≡ b.maker) × (a.tag ≡ b.tag)). λ i. record { maker = p.0 i; tag = p.1 i })
    (λ (e : a ≡ b). (ap (λ (id : TokenId). id.maker) e, ap (λ (id : TokenId). id.tag) e))
    (Decides-and (eqb a.maker b.maker) (bytes_eq a.tag b.tag) (Decides-eqb a.maker b.maker) (bytes_eq-Decides a.tag b.tag))
