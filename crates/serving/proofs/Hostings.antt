-- A campaign that is served in a hall of its own.
use Rattle.std.proofs.Common.{◌≡◌, ◌≤◌, ◌⊎◌, ℕ, Bool, List, [], inl, inr, subst, arith}
use Rattle.std.specs.Prelude.{Option, Some}
use Rattle.line_io.specs.Counts.{CountRose}
use Rattle.campaign_law.specs.declared.entry.Entry.{Entry}
use Rattle.campaign_law.specs.World.{World}
use Rattle.campaign_law.specs.Law.{IsOpening}
use Rattle.campaign_core.specs.Opening.{world_of_text}
use Rattle.turn_lock.specs.Pass.{HallState, PassState, first_pass}
use Rattle.session.specs.declared.service.Sat.{Sat}
use Rattle.serving.specs.declared.sittings.Sitting.{Sitting}
use Rattle.serving.specs.declared.serving_hall.Served.{Served}
use Rattle.serving.specs.declared.serving_hall.Served.TheVariants as answers
use Rattle.serving.specs.declared.hosting.Hosted.{Hosted}
use Rattle.serving.specs.declared.hosting.Hosted.TheVariants as hosted
use Rattle.serving.specs.Outside.{Outside, with_output}
use Rattle.serving.specs.Served.{Serves}
use Rattle.serving.specs.Endings.{EndsWith}
use Rattle.serving.specs.Hosted.{Hosts, HostsOn, ServesOn}

module _ {R In Out : Type 0} (Does : Sitting R In Out → (In × Out) × Sat → Type 0) (written : Out → Option (List ℕ)) where
  -- opening the door took no connection and gave none back
  pub served_on : (told served : Served) (hall : HallState World) (origin : World) (count : ℕ) (end : Bool) (p q : PassState Entry World) (low high : ℕ) (early given late : Outside In Out) (mid : Option (List ℕ)) (mid_faults : ℕ)
      → IsOpening origin → hall.origin ≡ origin → p ≡ first_pass hall [] → low ≡ 1 → given ≡ early → mid_faults ≤ late.out_faults
      → Serves hall Does written told count p q low high given (with_output late mid mid_faults) → EndsWith end told served hall.origin q mid late.written → ServesOn Does written served origin count end early late
  served_on told served hall origin count end p q low high early given late mid mid_faults opens is first begins same later serves ends = record {
    opens = opens;
    hall = hall;
    origin_is = is;
    q = q;
    high = high;
    told = told;
    mid = mid;
    mid_faults = mid_faults;
    later = later;
    serves =
        subst (λ x. Serves hall Does written told count (first_pass hall []) q 1 high x (with_output late mid mid_faults)) same
        (subst (λ n. Serves hall Does written told count (first_pass hall []) q n high given (with_output late mid mid_faults)) begins
        (subst (λ x. Serves hall Does written told count x q low high given (with_output late mid mid_faults)) first serves));
    ends = subst (λ w. EndsWith end told served w q mid late.written) is ends;
  }

  pub hosts_text : (early late : Outside In Out) (how : Hosted) (text : List ℕ) (origin : World) (count : ℕ) (end : Bool) → world_of_text text ≡ Some origin → HostsOn Does written how origin count end early late → Hosts Does written how text count end early late
  hosts_text early late (hosted.Bad breach) text origin count end is hosts = absurd hosts
  hosts_text early late hosted.Memory text origin count end is hosts = hosts
  hosts_text early late hosted.Closed text origin count end is hosts = (origin, is, hosts)
  hosts_text early late (hosted.Served served) text origin count end is hosts = (origin, is, hosts)

-- a fault of the output came while connections were told, or behind them
pub wrote_later : (told served : Served) (x y z : ℕ) → (told ≡ answers.WriteFault → CountRose x y) → x ≤ y → y ≤ z → (told ≡ answers.WriteFault) ⊎ CountRose y z → CountRose x z
wrote_later told served x y z first le more (inl wrote) = λ below. let rose = first wrote (omega (arith, below, more)) in omega (arith, rose, more)
wrote_later told served x y z first le more (inr later) = λ below. let rose = later below in omega (arith, rose, le)

pub same_served : (x y : Served) → hosted.Served x ≡ hosted.Served y → x ≡ y
same_served x y same = cc same
