use Rattle.std.proofs.Common.{map, string_bytes}
use Rattle.command_words.specs.LoggedServe.{asked_service}
use Rattle.tabletop.proofs.LoggedServices.{logged_count}
use Rattle.tabletop.proofs.log_serve.job.Goals as goal

pub serve_file-requires-clause-count : goal.serve_file-requires-clause-count
serve_file-requires-clause-count g c κs within = logged_count (map string_bytes c.args.words.now) (asked_service c.in-Ok.asked) c.in-Ok.ensures.service
