use Rattle.campaign_scene.specs.Maps.{frame, row}
use Rattle.campaign_json.proofs.Each.{IsReadTo}
use Rattle.campaign_scene.proofs.map.each_row.Given as goal

abbrev pub invariant-loop-place : goal.invariant-loop-place
invariant-loop-place l = IsReadTo (row l.name l.size.w) (frame l.name) l.values l.fn.scene l.place l.scene
