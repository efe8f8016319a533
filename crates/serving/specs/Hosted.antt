-- What serving the campaign of a text did.
use Rattle.std.specs.Prelude.{◌≡◌, ◌≤◌, ℕ, Bool, [], List, Option, Some, Err}
use Rattle.campaign_file.specs.Campaign.{campaign_of}
use Rattle.campaign_law.specs.declared.entry.Entry.{Entry}
use Rattle.campaign_law.specs.World.{World}
use Rattle.campaign_law.specs.Law.{IsOpening}
use Rattle.campaign_core.specs.Opening.{world_of_text}
use Rattle.turn_lock.specs.Pass.{HallState, PassState, first_pass}
use Rattle.session.specs.declared.service.Sat.{Sat}
use Rattle.serving.specs.declared.sittings.Sitting.{Sitting}
use Rattle.serving.specs.declared.serving_hall.Served.{Served}
use Rattle.serving.specs.declared.hosting.Hosted.{Hosted}
use Rattle.serving.specs.declared.hosting.Hosted.TheVariants as hosted
use Rattle.serving.specs.Outside.{Outside, with_output}
use Rattle.serving.specs.Served.{Serves}
use Rattle.serving.specs.Endings.{EndsWith}

-- nothing was taken, started and printed
pub record NothingServed {In Out : Type 0} (early late : Outside In Out) : Type 0 where
  pub coming : late.coming ≡ early.coming
  pub ended : late.ended ≡ early.ended
  pub started : late.started ≡ early.started
  pub written : late.written ≡ early.written

module _ {R In Out : Type 0} (Done : Sitting R In Out → (In × Out) × Sat → Type 0) (written : Out → Option (List ℕ)) where
  -- one hall was served, in which the campaign opened with this world. At its end the pass q knew its history, as far as sessions told
  pub record ServesOn (served : Served) (origin : World) (count : ℕ) (end : Bool) (early late : Outside In Out) : Type 0 where
    pub opens : IsOpening origin
    pub hall : HallState World
    pub origin_is : hall.origin ≡ origin
    -- the hall was new: its history was empty, its first pass served it, and its usher gave its first numbers
    pub q : PassState Entry World
    pub high : ℕ
    -- how serving the hall ended, what was printed of its connections, and what was printed behind that
    pub told : Served
    pub mid : Option (List ℕ)
    pub mid_faults : ℕ
    pub later : mid_faults ≤ late.out_faults
    pub serves : Serves hall Done written told count (first_pass hall []) q 1 high early (with_output late mid mid_faults)
    pub ends : EndsWith end told served origin q mid late.written

  -- by how it ended, from the campaign's world on
  abbrev pub HostsOn : Hosted → World → ℕ → Bool → (early late : Outside In Out) → Type 0
  HostsOn (hosted.Bad breach) origin count end early late = ⊥
  HostsOn hosted.Memory origin count end early late = NothingServed early late
  HostsOn hosted.Closed origin count end early late = NothingServed early late
  HostsOn (hosted.Served served) origin count end early late = ServesOn served origin count end early late

  -- by how it ended, from the campaign's text on
  abbrev pub Hosts : Hosted → List ℕ → ℕ → Bool → (early late : Outside In Out) → Type 0
  Hosts (hosted.Bad breach) text count end early late = (campaign_of text ≡ Err breach) × NothingServed early late
  Hosts hosted.Memory text count end early late = NothingServed early late
  Hosts hosted.Closed text count end early late = (origin : World) × (world_of_text text ≡ Some origin) × NothingServed early late
  Hosts (hosted.Served served) text count end early late = (origin : World) × (world_of_text text ≡ Some origin) × ServesOn served origin count end early late
