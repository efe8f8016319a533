-- How a run of `serve` ends, from what its parts did.
use Rattle.std.proofs.Common.{◌≡◌, ℕ, ◌≤◌, ◌<◌, List, length, Some, None, refl, sym, ◌∙◌, ap, subst, arith, ◌⊎◌, inl, inr}
use Rattle.std.specs.Prelude.{Bool, Option, IfSome}
use Rattle.std.specs.Io.KnownBytes.{append_known}
use Rattle.line_io.specs.Counts.{CountRose}
use Rattle.line_io.specs.declared.desks.DeskFault.{DeskFault}
use Rattle.line_io.specs.declared.desks.DeskFault.TheVariants as desk
use Rattle.campaign_law.specs.World.{World}
use Rattle.campaign_core.specs.Opening.{world_of_text}
use Rattle.script_play.specs.Sending.{WroteFront}
use Rattle.session.specs.declared.service.Sat.{Sat}
use Rattle.serving.specs.declared.sittings.Sitting.{Sitting}
use Rattle.serving.specs.declared.serving_hall.Served.TheVariants as answers
use Rattle.serving.specs.declared.hosting.Hosted.{Hosted}
use Rattle.serving.specs.declared.hosting.Hosted.TheVariants as hosted
use Rattle.serving.specs.Outside.{Outside, with_output}
use Rattle.serving.specs.Hosted.{Hosts, NothingServed}
use Rattle.tabletop.specs.declared.endings.Ended.{Ended}
use Rattle.tabletop.specs.declared.endings.Ended.TheVariants.{Done, Usage, BadCampaign, ReadFault, WriteFault, Memory, BadLine, TooLarge, DoorFault, Differs}
use Rattle.tabletop.specs.Endings.{status_of, last_line, HasOwnLine}
use Rattle.tabletop.specs.Ends.{NotFetched, IsToldAs, unfetched, campaign_limit}
use Rattle.tabletop.specs.ServeEnds.{Service, hosted_as, TextServes, FileServes, JobServes, HasEndedServing}
use Rattle.tabletop.proofs.AnswerLemmas.{breach_world}
use Rattle.tabletop.proofs.EndsLemmas.{DoneOrMemory, two_is_usage, not_fetched_done}

-- ---- what serving ends as

pub never_usage : (how : Hosted) → hosted_as how ≡ Usage → ⊥
never_usage (hosted.Bad breach) e = cc
never_usage hosted.Memory e = cc
never_usage hosted.Closed e = cc
never_usage (hosted.Served answers.Done) e = cc
never_usage (hosted.Served answers.WriteFault) e = cc
never_usage (hosted.Served answers.DoorFault) e = cc
never_usage (hosted.Served answers.Memory) e = cc

pub never_read_fault : (how : Hosted) → hosted_as how ≡ ReadFault → ⊥
never_read_fault (hosted.Bad breach) e = cc
never_read_fault hosted.Memory e = cc
never_read_fault hosted.Closed e = cc
never_read_fault (hosted.Served answers.Done) e = cc
never_read_fault (hosted.Served answers.WriteFault) e = cc
never_read_fault (hosted.Served answers.DoorFault) e = cc
never_read_fault (hosted.Served answers.Memory) e = cc

pub wrote_how : (how : Hosted) → hosted_as how ≡ WriteFault → how ≡ hosted.Served answers.WriteFault
wrote_how (hosted.Bad breach) e = cc
wrote_how hosted.Memory e = cc
wrote_how hosted.Closed e = cc
wrote_how (hosted.Served answers.Done) e = cc
wrote_how (hosted.Served answers.WriteFault) e = refl
wrote_how (hosted.Served answers.DoorFault) e = cc
wrote_how (hosted.Served answers.Memory) e = cc

pub door_how : (how : Hosted) → hosted_as how ≡ DoorFault → (how ≡ hosted.Closed) ⊎ (how ≡ hosted.Served answers.DoorFault)
door_how (hosted.Bad breach) e = cc
door_how hosted.Memory e = cc
door_how hosted.Closed e = inl refl
door_how (hosted.Served answers.Done) e = cc
door_how (hosted.Served answers.WriteFault) e = cc
door_how (hosted.Served answers.DoorFault) e = inr refl
door_how (hosted.Served answers.Memory) e = cc

pub unfetched_door : (fault : DeskFault) → unfetched fault ≡ DoorFault → ⊥
unfetched_door desk.Failed e = cc
unfetched_door desk.TooLarge e = cc
unfetched_door desk.Memory e = cc

pub unfetched_usage : (fault : DeskFault) → unfetched fault ≡ Usage → ⊥
unfetched_usage desk.Failed e = cc
unfetched_usage desk.TooLarge e = cc
unfetched_usage desk.Memory e = cc

-- ---- statuses

pub door_fault_of : (status : ℕ) (ended told : Ended) → status ≡ status_of told → IsToldAs ended told → status ≡ 9 → ended ≡ DoorFault
door_fault_of status ended DoorFault s (inl same) h = sym same
door_fault_of status ended DoorFault s (inr less) h = let z : DoorFault ≡ Memory = less.1 in cc
door_fault_of status ended Done s t h = absurd (omega (arith, s, h))
door_fault_of status ended Usage s t h = absurd (omega (arith, s, h))
door_fault_of status ended (BadCampaign breach) s t h = absurd (omega (arith, s, h))
door_fault_of status ended ReadFault s t h = absurd (omega (arith, s, h))
door_fault_of status ended WriteFault s t h = absurd (omega (arith, s, h))
door_fault_of status ended Memory s t h = absurd (omega (arith, s, h))
door_fault_of status ended (BadLine number) s t h = absurd (omega (arith, s, h))
door_fault_of status ended TooLarge s t h = absurd (omega (arith, s, h))
door_fault_of status ended Differs s t h = absurd (omega (arith, s, h))

module _ {R In Out : Type 0} (Does : Sitting R In Out → (In × Out) × Sat → Type 0) (written : Out → Option (List ℕ)) (early late : Outside In Out) where
  -- ---- a file that was fetched or not

  pub unfetched_serves : (D : Type 0) (fault : DeskFault) (count : ℕ) (end : Bool) (campaign : Option (List ℕ)) → (fault ≡ desk.Failed → D) → (fault ≡ desk.TooLarge → IfSome campaign (λ told. campaign_limit < length told)) → NothingServed early late
      → FileServes Does written D (unfetched fault) count end campaign early late
  unfetched_serves D desk.Failed count end campaign failed large none = inl (failed refl, none)
  unfetched_serves D desk.TooLarge count end campaign failed large none = inl (large refl, none)
  unfetched_serves D desk.Memory count end campaign failed large none = inl (tt, none)

  pub fetched_serves : (D : Type 0) (ended : Ended) (how : Hosted) (count : ℕ) (end : Bool) (campaign : Option (List ℕ)) (text : List ℕ) → ended ≡ hosted_as how → IfSome campaign (λ told. text ≡ told) → length text ≤ campaign_limit
      → Hosts Does written how text count end early late → FileServes Does written D ended count end campaign early late
  fetched_serves D ended how count end campaign text same told small hosts = inr (record { text = text; told = told; small = small; ends = record { how = how; told = same; hosts = hosts } })

  -- ---- want of memory

  pub memory_serves : (D : Type 0) (service : Option Service) (texts : List ℕ → Option (List ℕ)) → NothingServed early late → JobServes Does written D Memory service texts early late
  memory_serves D None texts none = (inr refl, none)
  memory_serves D (Some service) texts none = inl (tt, none)

  less_how : (how : Hosted) (count : ℕ) (end : Bool) (text : List ℕ) → HasOwnLine (hosted_as how) → Hosts Does written how text count end early late → TextServes Does written Memory count end early late text
  less_how (hosted.Bad breach) count end text own hosts = record { how = hosted.Memory; told = refl; hosts = hosts.1 }
  less_how hosted.Memory count end text own hosts = absurd own
  less_how hosted.Closed count end text own hosts = absurd own
  less_how (hosted.Served answers.Done) count end text own hosts = absurd own
  less_how (hosted.Served answers.WriteFault) count end text own hosts = absurd own
  less_how (hosted.Served answers.DoorFault) count end text own hosts = absurd own
  less_how (hosted.Served answers.Memory) count end text own hosts = absurd own

  file_less : (D : Type 0) (ended : Ended) (count : ℕ) (end : Bool) (campaign : Option (List ℕ)) → HasOwnLine ended → FileServes Does written D ended count end campaign early late → FileServes Does written D Memory count end campaign early late
  file_less D ended count end campaign own (inl none) = inl (tt, none.1)
  file_less D ended count end campaign own (inr g) = inr (record { text = g.text; told = g.told; small = g.small; ends = less_how g.ends.how count end g.text (subst HasOwnLine g.ends.told own) g.ends.hosts })

  job_less : (D : Type 0) (ended : Ended) (service : Option Service) (texts : List ℕ → Option (List ℕ)) → HasOwnLine ended → JobServes Does written D ended service texts early late → JobServes Does written D Memory service texts early late
  job_less D ended None texts own job = (inr refl, job.1)
  job_less D ended (Some service) texts own job = file_less D ended service.count service.end (texts service.file) own job

  told_as : (D : Type 0) (ended told : Ended) (service : Option Service) (texts : List ℕ → Option (List ℕ)) → IsToldAs ended told → JobServes Does written D ended service texts early late → JobServes Does written D told service texts early late
  told_as D ended told service texts (inl same) job = subst (λ x. JobServes Does written D x service texts early late) (sym same) job
  told_as D ended told service texts (inr less) job = subst (λ x. JobServes Does written D x service texts early late) (sym less.1) (job_less D ended service texts less.0 job)

  used : (D : Type 0) (service : Option Service) (texts : List ℕ → Option (List ℕ)) → JobServes Does written D Usage service texts early late → service ≡ None
  used D None texts job = refl
  used D (Some service) texts (inl none) = absurd none.0
  used D (Some service) texts (inr g) = absurd (never_usage g.ends.how (sym g.ends.told))

  no_service_ends : (D : Type 0) (ended : Ended) (service : Option Service) (texts : List ℕ → Option (List ℕ)) → service ≡ None → JobServes Does written D ended service texts early late → (status_of ended ≡ 2) ⊎ (status_of ended ≡ 6)
  no_service_ends D ended service texts none job = by (subst (λ s. JobServes Does written D ended s texts early late) none job).0
    where
      by : (ended ≡ Usage) ⊎ (ended ≡ Memory) → (status_of ended ≡ 2) ⊎ (status_of ended ≡ 6)
      by (inl usage) = inl (ap status_of usage)
      by (inr memory) = inr (ap status_of memory)

  -- ---- completeness

  hosts_done : (how : Hosted) (count : ℕ) (end : Bool) (text : List ℕ) (origin : World) → world_of_text text ≡ Some origin → ¬ (status_of (hosted_as how) ≡ 5) → ¬ (status_of (hosted_as how) ≡ 9) → Hosts Does written how text count end early late → DoneOrMemory (status_of (hosted_as how))
  hosts_done (hosted.Bad breach) count end text origin is no_write no_door hosts = absurd (breach_world text breach origin is hosts.0)
  hosts_done hosted.Memory count end text origin is no_write no_door hosts = inr refl
  hosts_done hosted.Closed count end text origin is no_write no_door hosts = absurd (no_door refl)
  hosts_done (hosted.Served answers.Done) count end text origin is no_write no_door hosts = inl refl
  hosts_done (hosted.Served answers.WriteFault) count end text origin is no_write no_door hosts = absurd (no_write refl)
  hosts_done (hosted.Served answers.DoorFault) count end text origin is no_write no_door hosts = absurd (no_door refl)
  hosts_done (hosted.Served answers.Memory) count end text origin is no_write no_door hosts = inr refl

  file_done : (D : Type 0) (ended : Ended) (count : ℕ) (end : Bool) (told : Option (List ℕ)) (campaign : List ℕ) (origin : World) → told ≡ Some campaign → length campaign ≤ campaign_limit → world_of_text campaign ≡ Some origin
      → ¬ (status_of ended ≡ 4) → ¬ (status_of ended ≡ 5) → ¬ (status_of ended ≡ 9) → FileServes Does written D ended count end told early late → DoneOrMemory (status_of ended)
  file_done D ended count end told campaign origin is small opens no_read no_write no_door (inl none) = not_fetched_done D ended campaign small no_read (subst (NotFetched D ended) is none.0)
  file_done D ended count end told campaign origin is small opens no_read no_write no_door (inr g) =
      let same : g.text ≡ campaign = subst (λ t. IfSome t (λ told. g.text ≡ told)) is g.told in
      let status : status_of ended ≡ status_of (hosted_as g.ends.how) = ap status_of g.ends.told in
      subst DoneOrMemory (sym status) (hosts_done g.ends.how count end g.text origin (ap world_of_text same ∙ opens) (λ h. no_write (status ∙ h)) (λ h. no_door (status ∙ h)) g.ends.hosts)

module _ {R In Out : Type 0} (Does : Sitting R In Out → (In × Out) × Sat → Type 0) (written : Out → Option (List ℕ)) (early late : Outside In Out) where
  -- ---- the whole run

  pub run_served : (D : Type 0) (status : ℕ) (ended told : Ended) (service : Option Service) (texts : List ℕ → Option (List ℕ)) (after : Option (List ℕ)) (faults : ℕ) → status ≡ status_of told → IsToldAs ended told
      → JobServes Does written D ended service texts early (with_output late after faults) → faults ≤ late.out_faults
      → (late.written ≡ append_known after (last_line told)) ⊎ (CountRose faults late.out_faults × WroteFront after (last_line told) late.written) → HasEndedServing Does written status service texts early late D
  run_served D status ended told service texts after faults s t job le line = record {
    ended = told;
    status_is = s;
    before_line = after;
    faults = faults;
    later = le;
    ends = told_as Does written early (with_output late after faults) D ended told service texts t job;
    line = line;
  }

  pub usage_if : (status : ℕ) (service : Option Service) (texts : List ℕ → Option (List ℕ)) (D : Type 0) → HasEndedServing Does written status service texts early late D → status ≡ 2 → service ≡ None
  usage_if status service texts D h s =
      used Does written early (with_output late h.before_line h.faults) D service texts (subst (λ x. JobServes Does written D x service texts early (with_output late h.before_line h.faults)) (two_is_usage h.ended (sym h.status_is ∙ s)) h.ends)

  pub no_service_only : (status : ℕ) (service : Option Service) (texts : List ℕ → Option (List ℕ)) (D : Type 0) → HasEndedServing Does written status service texts early late D → service ≡ None → (status ≡ 2) ⊎ (status ≡ 6)
  no_service_only status service texts D h none = subst (λ s. (s ≡ 2) ⊎ (s ≡ 6)) (sym h.status_is) (no_service_ends Does written early (with_output late h.before_line h.faults) D h.ended service texts none h.ends)

  pub serve_completes : (status : ℕ) (asked : Option Service) (service : Service) (texts : List ℕ → Option (List ℕ)) (D : Type 0) (campaign : List ℕ) (origin : World) → HasEndedServing Does written status asked texts early late D → asked ≡ Some service
      → texts service.file ≡ Some campaign → length campaign ≤ campaign_limit → world_of_text campaign ≡ Some origin → ¬ (status ≡ 4) → ¬ (status ≡ 5) → ¬ (status ≡ 9) → DoneOrMemory status
  serve_completes status asked service texts D campaign origin h is told small opens no_read no_write no_door =
      subst DoneOrMemory (sym h.status_is)
      (file_done Does written early (with_output late h.before_line h.faults) D h.ended service.count service.end (texts service.file) campaign origin told small opens
      (λ s. no_read (h.status_is ∙ s)) (λ s. no_write (h.status_is ∙ s)) (λ s. no_door (h.status_is ∙ s))
      (subst (λ j. JobServes Does written D h.ended j texts early (with_output late h.before_line h.faults)) is h.ends))
