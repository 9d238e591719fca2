-- What is learnt is executed, slot by slot, and a request that waited has its reply.
use Rattle.std.specs.Prelude.{ℕ, zero, suc, List, [], ◌∷◌, ◌++◌, Option, Some, None, if◌then◌else◌}
use Rattle.std.specs.List.{list_any}
use Rattle.sessions.specs.declared.submission.Submission.{Submission}
use Rattle.sessions.specs.Machines.{MachineState, after_command, reply_to_command}
use Rattle.sessions.specs.declared.command.Command.{Command}
use Rattle.sessions.specs.declared.command.Command.TheVariants.{NoOp, Request}
use Rattle.proposer.specs.Requests.{is_of, without}
use Rattle.node_model.specs.declared.outputs.ReplyOut.{ReplyOut}

-- the machine, the requests that wait at the node, and the replies to those that did
pub record Executing : Type 0 where
  pub machine : MachineState
  pub waiting : List Submission
  pub replies : List ReplyOut

-- the reply to a request, where it waits; its position is one more than its slot
abbrev pub reply_at : Executing → ℕ → Submission → List ReplyOut
reply_at e slot r =
    if list_any (is_of r.client r.number) e.waiting then record {
      client = r.client;
      number = r.number;
      reply = reply_to_command e.machine (Request r);
      position = suc slot;
    } ∷ []
    else []

-- the command at a slot is executed; a request waits no more then
abbrev pub executing : Executing → ℕ → Command → Executing
executing e slot NoOp = record e { machine = after_command e.machine NoOp }
executing e slot (Request r) = record {
  machine = after_command e.machine (Request r);
  waiting = without r.client r.number e.waiting;
  replies = e.replies ++ reply_at e slot r;
}

-- the commands at the slots from one on are executed
abbrev pub executed : Executing → ℕ → List Command → Executing
executed e slot [] = e
executed e slot (c ∷ cs) = executed (executing e slot c) (suc slot) cs

-- ---- what is learnt, as a list
abbrev pub with_command : Option Command → List Command → List Command
with_command None cs = cs
with_command (Some c) cs = c ∷ cs

-- the commands that are learnt at so many slots from one on
unfoldable pub commands : (ℕ → Option Command) → ℕ → ℕ → List Command
commands learnt slot zero = []
commands learnt slot (suc n) = with_command (learnt slot) (commands learnt (suc slot) n)
