use Rattle.std.proofs.Common.{rules, inl}
use Rattle.node.proofs.replica.Replica.trim.Goals as goal

-- the acceptor's write is the one on which the device failed
pub returns-in_err-trim-clause-steps : goal.returns-in_err-trim-clause-steps
returns-in_err-trim-clause-steps g c = record {
  takes = search rules;
  made = record {
    written = search rules;
    device = λ device.
        let w = c.in_err-trim.ensures.device (search (rules, device)) in
        record { write = w.0; made = w.1; leaves = w.2 };
    memory = λ memory. inl (c.in_err-trim.ensures.memory (search (rules, memory)));
  };
  refused = tt;
  err = search rules;
  ignored = λ is. absurd is;
}
