-- What ends a run that is logged, as what would end it without a log.
use Rattle.std.proofs.Common.{◌≡◌, refl, subst}
use Rattle.std.specs.Prelude.{Result, Ok, Err, OnOk, OnErr, IfErr}
use Rattle.script_play.specs.declared.run.Played.{Played}
use Rattle.script_play.specs.declared.run.Played.TheVariants as P
use Rattle.script_play.specs.Played.{IsCutShort, IsLineStop, played}
use Rattle.log_play.specs.declared.logged.Logged.{Logged}
use Rattle.log_play.specs.declared.logged.Logged.TheVariants.{Done, ReadFault, WriteFault, BadLine, TooLarge, DiskFault, Full, Memory}
use Rattle.log_play.specs.Logged.{as_played, logged_by, logged, IsLogStop}

-- the result of a part of a run
abbrev pub result_as : {A : Type 0} → Result A Logged → Result A Played
result_as (Ok value) = Ok value
result_as (Err stop) = Err (as_played stop)

pub same_as : {A : Type 0} (r : Result A Logged) → played (result_as r) ≡ as_played (logged r)
same_as (Ok value) = refl
same_as (Err stop) = refl

pub ok_as : {A : Type 0} (r : Result A Logged) (Q : Type 0) → OnOk r Q → OnOk (result_as r) Q
ok_as (Ok value) Q h = h
ok_as (Err stop) Q h = h

pub err_as : {A : Type 0} (r : Result A Logged) (Q : Type 0) → OnErr r Q → OnErr (result_as r) Q
err_as (Ok value) Q h = h
err_as (Err stop) Q h = h

pub cut_as : {A : Type 0} (r : Result A Logged) → IfErr r (λ stop. IsCutShort (as_played stop)) → IfErr (result_as r) IsCutShort
cut_as (Ok value) h = h
cut_as (Err stop) h = h

pub on_ok : {A : Type 0} (r : Result A Logged) {Q R : Type 0} → (Q → R) → OnOk r Q → OnOk r R
on_ok (Ok value) f h = f h
on_ok (Err stop) f h = h

pub on_err : {A : Type 0} (r : Result A Logged) {Q R : Type 0} → (Q → R) → OnErr r Q → OnErr r R
on_err (Ok value) f h = h
on_err (Err stop) f h = f h

pub by_played : (stop : Played) → as_played (logged_by stop) ≡ stop
by_played P.Done = refl
by_played P.ReadFault = refl
by_played P.WriteFault = refl
by_played (P.BadLine number) = refl
by_played P.TooLarge = refl
by_played P.Memory = refl

pub log_stop_cuts : (stop : Logged) → IsLogStop stop → IsCutShort (as_played stop)
log_stop_cuts Done h = h
log_stop_cuts ReadFault h = h
log_stop_cuts WriteFault h = absurd h
log_stop_cuts (BadLine number) h = h
log_stop_cuts TooLarge h = h
log_stop_cuts DiskFault h = tt
log_stop_cuts Full h = tt
log_stop_cuts Memory h = tt

pub all_cuts : {A : Type 0} (r : Result A Logged) → IfErr r IsLogStop → IfErr r (λ stop. IsCutShort (as_played stop))
all_cuts (Ok value) h = h
all_cuts (Err stop) h = log_stop_cuts stop h

pub cut_stops : (stop : Logged) → IsCutShort (as_played stop) → IsLineStop (as_played stop)
cut_stops Done h = h
cut_stops ReadFault h = h
cut_stops WriteFault h = tt
cut_stops (BadLine number) h = absurd h
cut_stops TooLarge h = absurd h
cut_stops DiskFault h = tt
cut_stops Full h = tt
cut_stops Memory h = tt

pub all_cut_stops : {A : Type 0} (r : Result A Logged) → IfErr r (λ stop. IsCutShort (as_played stop)) → IfErr r (λ stop. IsLineStop (as_played stop))
all_cut_stops (Ok value) h = h
all_cut_stops (Err stop) h = cut_stops stop h

-- a fault of the sink is none of the log's
pub no_write_fault : (stop : Logged) → IsLogStop stop → stop ≡ WriteFault → ⊥
no_write_fault stop h e = subst IsLogStop e h

pub no_write_fault_of : {A : Type 0} (r : Result A Logged) → IfErr r IsLogStop → logged r ≡ WriteFault → ⊥
no_write_fault_of (Ok value) h e = let z : Done ≡ WriteFault = e in cc
no_write_fault_of (Err stop) h e = no_write_fault stop h e
