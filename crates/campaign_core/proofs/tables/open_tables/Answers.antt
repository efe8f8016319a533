use Rattle.std.proofs.Common.{subst, ◌≡◌, true}
use Rattle.std.specs.FinMap.Entries.{is_sorted}
use Rattle.names.specs.Tag.{tag_cmp}
use Rattle.maps.specs.Maps.{in_order as maps_in_order}
use Rattle.tokens.specs.Tokens.{in_order}
use Rattle.campaign_core.proofs.tables.open_tables.Goals as goal

pub returns : goal.returns
returns c = record {
  fitting = c.maps.ensures.fitting;
  maps = subst (λ maps. maps_in_order maps ≡ true) c.maps.ensures.value c.len-maps.ensures.valid.ordered;
  tokens = subst (λ tokens. in_order tokens ≡ true) c.tokens.ensures.value c.len-tokens.ensures.ordered;
  lights = subst (λ lights. is_sorted tag_cmp lights ≡ true) c.lights.ensures.value c.len-lights.ensures.valid.table.in_order;
  sights = subst (λ sights. is_sorted tag_cmp sights ≡ true) c.sights.ensures.value c.len-sights.ensures.valid.table.in_order;
}
