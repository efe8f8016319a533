use Rattle.std.proofs.Common.{◌∙◌, refl, sym}
use Rattle.transcript_check.proofs.Followed.{accepted_is, own_is_there, follows_own, others_are_there, follows_others}
use Rattle.transcript_check.proofs.Results.{on_both}
use Rattle.transcript_check.proofs.tracing.Follower.enter.Goals as goal

pub add_own_items-requires : goal.add_own_items-requires
add_own_items-requires g c = record {
  there = λ present. own_is_there c.args.campaign.now c.step.new.self c.args.entry c.args.self.now.seat c.in-Some.own c.is_joined-joined.result c.is_none-accepted.result c.in-Ok.answer c.step.ensures.origin
      (record { is_own = sym c.in_ok-own.ensures ∙ c.in-Some.is; is_joined = c.is_joined-joined.ensures; is_accepted = accepted_is _ _ c.is_none-accepted.ensures; answers = c.in-Ok.ensures.answer }) present;
}

pub returns-in-Some-clause-follows : goal.returns-in-Some-clause-follows
returns-in-Some-clause-follows g c =
    on_both c.add_own_items.result
    (λ items shown. follows_own c.args.campaign.now c.step.new.self c.args.entry c.args.self.now (record { seat = c.args.self.now.seat; last = c.add_own_items.new.last; items = c.add_own_items.new.items }) c.in-Some.own c.is_joined-joined.result c.is_none-accepted.result c.in-Ok.answer
    (record { origin = c.step.ensures.origin; history = c.in-Ok.ensures.history }) c.requires refl
    (record { is_own = sym c.in_ok-own.ensures ∙ c.in-Some.is; is_joined = c.is_joined-joined.ensures; is_accepted = accepted_is _ _ c.is_none-accepted.ensures; answers = c.in-Ok.ensures.answer })
    items shown)
    c.add_own_items.ensures.items c.add_own_items.ensures.last

pub add_others_items-requires : goal.add_others_items-requires
add_others_items-requires g c = record {
  there = λ joined. others_are_there c.args.campaign.now c.step.new.self c.args.self.now.seat c.is_joined-joined.result c.step.ensures.origin c.is_joined-joined.ensures joined;
}

pub returns-clause-follows : goal.returns-clause-follows
returns-clause-follows g c =
    on_both c.add_others_items.result
    (λ items shown. follows_others c.args.campaign.now c.step.new.self c.args.entry c.args.self.now (record { seat = c.args.self.now.seat; last = c.add_others_items.new.last; items = c.add_others_items.new.items }) c.is_joined-joined.result
    (record { origin = c.step.ensures.origin; history = c.in-Ok.ensures.history }) c.requires refl (sym c.in_ok-own.ensures ∙ c.in-None.is) c.is_joined-joined.ensures items shown)
    c.add_others_items.ensures.items c.add_others_items.ensures.last
