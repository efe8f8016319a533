-- The text of a campaign that was written is read.
use Rattle.std.proofs.Common.{◌≡◌, ℕ, ◌≤◌, List, Some, Result, Ok, Err, sym, ap, ◌∙◌, arith, subst, false}
use Rattle.std.specs.Prelude.{IfOk}
use Rattle.serde_json.specs.Data.{Data, depth}
use Rattle.serde_json.specs.Written.{compact_text, has_float}
use Rattle.json_fields.specs.Values.{value_of}
use Rattle.json_fields.specs.Objects.{◌>>=◌}
use Rattle.campaign_json.specs.declared.faults.Rule.TheVariants.{Json}
use Rattle.campaign_json.specs.Reading.{needed}
use Rattle.world.specs.World.{World}
use Rattle.campaign_json.specs.declared.formats.Format.{Format}
use Rattle.campaign_writing.specs.Canonical.{canonical_in, campaign_tree_in, reopened}
use Rattle.campaign_writing.proofs.Writable.{IsWritable}
use Rattle.campaign_file.specs.Campaign.{campaign, campaign_of}
use Rattle.campaign_writing.proofs.Shape.{campaign_plain_in}
use Rattle.campaign_writing.proofs.Campaigns.{campaign_reads}

pub text_is : {E : Type 0} (result : Result (List ℕ) E) (d : Data) (format : Format) (w : World) → d ≡ campaign_tree_in format w → IfOk result (λ line. has_float d ≡ false → line ≡ compact_text d) → IfOk result (λ line. line ≡ canonical_in format w)
text_is (Ok line) d format w same h = h (ap has_float same ∙ (campaign_plain_in format w).exact) ∙ ap compact_text same
text_is (Err e) d format w same h = tt

pub read_back : {E : Type 0} (result : Result (List ℕ) E) (d : Data) (format : Format) (w : World) → d ≡ campaign_tree_in format w → IsWritable format w → IfOk result (λ line. depth d ≤ 127 → value_of line ≡ Some d) → IfOk result (λ line. campaign_of line ≡ Ok (reopened w))
unfolding campaign_of
read_back (Ok line) d format w same is h =
    let shallow : depth (campaign_tree_in format w) ≤ 127 = (let s = (campaign_plain_in format w).shallow in omega (arith, s)) in
    ap (λ o. needed Json o >>= campaign) (h (subst (λ x. depth x ≤ 127) (sym same) shallow) ∙ ap Some same) ∙ campaign_reads format w is
read_back (Err e) d format w same is h = tt
