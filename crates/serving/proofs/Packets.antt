-- What comes of a packet that hands on a request.
use Rattle.std.proofs.Common.{◌≡◌, ◌<◌, ◌≤◌, ◌↔◌, ℕ, nat_le, Bool, true, false, IsTrue, List, Option, Some, None, MatchOption, Result, Ok, Err, IfErr, OnOk, refl, subst}
use Rattle.std.proofs.lemmas.Bool.{leb-false, leb-true}
use Rattle.sessions.specs.Machines.{last_number}
use Rattle.sessions.specs.Sessions.{session_of}
use Rattle.sessions.specs.declared.submission.Submission.{Submission}
use Rattle.stable.specs.declared.stable.Stable.{Ghosts}
use Rattle.node_model.specs.Nodes.{NodeState}
use Rattle.node_model.specs.Replicas.{ReplicaState}
use Rattle.schedule.specs.declared.fault.ScheduleFault.{ScheduleFault}
use Rattle.schedule.specs.declared.replay_fault.ReplayCause.TheVariants.{Schedule}
use Rattle.life.specs.Lives.{LifeState}
use Rattle.clients.specs.ClientLines.{IsClientFault, IsClientLine}
use Rattle.clients.specs.declared.line.ClientLine.TheVariants as line
use Rattle.clients.proofs.LineLaws.{faulty_asks, one_asked}
use Rattle.serving.specs.Knowing.{IsLastNumber}
use Rattle.serving.specs.Packets.{IsTakenOnce, IsTakenOver, SubmitsNothing}

last_where : (client : ℕ) (up : Option ReplicaState) → (number : ℕ)
    × MatchOption up (number ≡ 0) (λ m. number ≡ last_number (session_of m.machine.sessions client))
last_where client None = (0, refl)
last_where client (Some m) = (last_number (session_of m.machine.sessions client), refl)

pub has_last : {S : Type 0} (n : NodeState S) (client : ℕ) → (number : ℕ) × IsLastNumber n client number
has_last n client = last_where client n.up

-- a number that hasn't counted is greater
not_counted_at : (known : Bool) (number last : ℕ) → known ≡ false → (IsTrue known ↔ (number ≤ last)) → (b : Bool)
    → nat_le number last ≡ b → last < number
not_counted_at known number last is iff true le =
    let counted : IsTrue known = iff.1 (leb-true number last le) in
    absurd (cc)
not_counted_at known number last is iff false gt = leb-false number last gt

pub not_counted : (known : Bool) (number last : ℕ) → known ≡ false → (IsTrue known ↔ (number ≤ last)) → last < number
not_counted known number last is iff = not_counted_at known number last is iff (nat_le number last) refl

-- ---- lines
same_submission : (a b : Submission) → line.Submit a ≡ line.Submit b → a ≡ b
same_submission a b e = cc

pub faulty_submits_nothing : (text : List ℕ) (fault : ScheduleFault) → IsClientFault text (Schedule fault) → SubmitsNothing text
faulty_submits_nothing text fault is = λ submission. faulty_asks text fault (line.Submit submission) is

module _ {S : Type 0} (storages : Ghosts S) (text : List ℕ) (old : LifeState S) where
  pub taken_over : (new : LifeState S) (submission : Submission) → IsClientLine text (line.Submit submission)
      → IsTakenOnce storages submission old new → IsTakenOver storages text old new
  taken_over new submission is taken = record {
    submits = λ other h. subst (λ (s : Submission). IsTakenOnce storages s old new)
        (same_submission submission other (one_asked text (line.Submit submission) (line.Submit other) is h)) taken;
    submits_nothing = λ none. absurd (none submission is);
  }

  pub passed_over : SubmitsNothing text → IsTakenOver storages text old old
  passed_over none = record { submits = λ submission h. absurd (none submission h); submits_nothing = λ h. refl }

pub on_ok_so : {A E X Y : Type 0} (result : Result A E) → (X → Y) → OnOk result X → OnOk result Y
on_ok_so (Ok done) f h = f h
on_ok_so (Err fault) f h = tt

pub on_fault_so : {A E : Type 0} (result : Result A E) {P Q : E → Type 0} → ((fault : E) → P fault → Q fault) → IfErr result P → IfErr result Q
on_fault_so (Ok done) f h = tt
on_fault_so (Err fault) f h = f fault h
