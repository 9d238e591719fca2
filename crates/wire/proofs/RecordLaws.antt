-- The records of votes and of checkpoints: what is read was spelled so, and what is spelled so is read.
use Rattle.std.proofs.Common.{◌≡◌, ℕ, ◌≤◌, List, [], ◌∷◌, ◌++◌, length, drop, Option, Some, None, IfSome}
use Rattle.std.proofs.Common.{Ok, refl, sym, ap, subst, ◌∙◌, arith}
use Rattle.std.proofs.lemmas.List.{append-nil, drop_at}
use Rattle.byteorder.specs.Endian.{big_number, big_bytes}
use Rattle.byteorder.specs.Numbers.{big_number-reads_back, length-bytes_high_first}
use Rattle.synod.specs.declared.slot.TheConstants.{SLOTS}
use Rattle.synod.specs.declared.ballot.Ballot.{Ballot}
use Rattle.sessions.specs.declared.command.Command.{Command}
use Rattle.wire.specs.Spelling.{ballot_bytes, BallotFits, command_bytes, CommandFits}
use Rattle.wire.specs.declared.frames.fault.WireFault.{WireFault}
use Rattle.wire.specs.declared.frames.fault.WireFault.TheVariants.{Short, Magic, Version, Kind, Field, Trailing, Long, Memory}
use Rattle.wire.specs.Reading.{Fails, ballot_at, request_number_at, command_at}
use Rattle.wire.specs.RecordForms.{IsVoteRecord, PutBegins, choice_at, Checkpointed, promise_bytes, IsCheckpointRecord}
use Rattle.fields.specs.Reading.{byte_at, id_at}
use Rattle.fields.specs.Spelling.{id_bytes}
use Rattle.fields.proofs.FieldLemmas.{IsBytes, bind_ok, ok_is, Takes, Takes-then, byte_takes}
use Rattle.fields.proofs.FieldLaws.{id_takes}
use Rattle.wire.specs.Puts.{ChoiceBeginsAsPut}
use Rattle.wire.proofs.WideLemmas.{ok_and, is_ok}
use Rattle.wire.proofs.BallotLaws.{ballot_takes, ballot_again}
use Rattle.wire.proofs.CommandLaws.{request_number_takes, command_takes, command_again}

record TookChoice (bytes : List ℕ) (x : (Ballot × Command) × List ℕ) : Type 0 where
  pub takes : Takes bytes (ballot_bytes x.0.0 ++ command_bytes x.0.1) x.1
  pub ballot : BallotFits 7 x.0.0
  pub command : CommandFits x.0.1

choice_takes : (bytes : List ℕ) (x : (Ballot × Command) × List ℕ) → IsBytes bytes → choice_at bytes ≡ Ok x → TookChoice bytes x
unfolding choice_at
choice_takes bytes x fits e =
    let a = bind_ok (ballot_at 7 bytes) _ x e in
    let b = bind_ok (command_at a.0.1) _ x a.2 in
    let t = ballot_takes 7 (omega arith) bytes a.0 fits a.1 in
    let u = command_takes a.0.1 b.0 t.takes.rest_fits b.1 in
    let both = Takes-then bytes (ballot_bytes a.0.0) a.0.1 (command_bytes b.0.0) b.0.1 t.takes u.takes in
    let made : (Ballot × Command) × List ℕ = ((a.0.0, b.0.0), b.0.1) in
    let it : TookChoice bytes made = record { takes = both; ballot = t.fits; command = u.fits } in
    subst (TookChoice bytes) (ok_is made x b.2) it

-- what is read up to the last byte is the record
pub choice_is_record : (bytes : List ℕ) (b : Ballot) (c : Command) (rest : List ℕ) → IsBytes bytes → choice_at bytes ≡ Ok ((b, c), rest)
    → rest ≡ [] → IsVoteRecord bytes b c
choice_is_record bytes b c rest fits e ends =
    let t = choice_takes bytes ((b, c), rest) fits e in
    let spelled : bytes ≡ ballot_bytes b ++ command_bytes c =
    t.takes.parts ∙ ap (λ (r : List ℕ). (ballot_bytes b ++ command_bytes c) ++ r) ends ∙ append-nil (ballot_bytes b ++ command_bytes c) in
    record { ballot = t.ballot; command = t.command; spelled = spelled }

-- the record is read up to its last byte
pub record_is_choice : (bytes : List ℕ) (b : Ballot) (c : Command) → IsVoteRecord bytes b c → choice_at bytes ≡ Ok ((b, c), [])
unfolding choice_at
record_is_choice bytes b c is =
    let regrouped : bytes ≡ ballot_bytes b ++ (command_bytes c ++ []) = is.spelled ∙ ap
    (λ (r : List ℕ). ballot_bytes b ++ r) (sym (append-nil (command_bytes c))) in
    ap choice_at regrouped ∙ rw (ballot_again 7 b (command_bytes c ++ []) is.ballot, command_again c [] is.command) refl

-- a fault that is not for memory is the fault of the bytes, so they are no record
pub fault_is_no_record : (e : WireFault) → ¬ (e ≡ Memory) → (bytes : List ℕ) → Fails e (choice_at bytes) → (b : Ballot) (c : Command)
    → IsVoteRecord bytes b c → ⊥
fault_is_no_record Memory other bytes fails b c is = other refl
fault_is_no_record Short other bytes fails b c is = let read = record_is_choice bytes b c is in cc
fault_is_no_record Magic other bytes fails b c is = let read = record_is_choice bytes b c is in cc
fault_is_no_record Version other bytes fails b c is = let read = record_is_choice bytes b c is in cc
fault_is_no_record Kind other bytes fails b c is = let read = record_is_choice bytes b c is in cc
fault_is_no_record Field other bytes fails b c is = let read = record_is_choice bytes b c is in cc
fault_is_no_record Trailing other bytes fails b c is = let read = record_is_choice bytes b c is in cc
fault_is_no_record Long other bytes fails b c is = let read = record_is_choice bytes b c is in cc

-- where bytes are left, they are no record
pub rest_is_no_record : (bytes : List ℕ) (v : Ballot × Command) (rest : List ℕ) → choice_at bytes ≡ Ok (v, rest) → ¬ (rest ≡ [])
    → (b : Ballot) (c : Command) → IsVoteRecord bytes b c → ⊥
rest_is_no_record bytes v rest e left b c is =
    let same : (v, rest) ≡ ((b, c), []) = ok_is (v, rest) ((b, c), []) (sym e ∙ record_is_choice bytes b c is) in
    left (ap (λ (p : (Ballot × Command) × List ℕ). p.1) same)

-- the record is of no other ballot and command
pub one_record : (bytes : List ℕ) (v : Ballot × Command) (rest : List ℕ) → choice_at bytes ≡ Ok (v, rest) → (b : Ballot) (c : Command)
    → IsVoteRecord bytes b c → v ≡ (b, c)
one_record bytes v rest e b c is =
    let same : (v, rest) ≡ ((b, c), []) = ok_is (v, rest) ((b, c), []) (sym e ∙ record_is_choice bytes b c is) in
    ap (λ (p : (Ballot × Command) × List ℕ). p.0) same

-- ---- where a put begins
-- a byte of this value was taken
code_takes : (bytes : List ℕ) (x : ℕ × List ℕ) (code : ℕ) → IsBytes bytes → byte_at bytes ≡ Ok x → x.0 ≡ code → Takes bytes (code ∷ []) x.1
code_takes bytes x code fits e is =
    subst (λ (b : ℕ). Takes bytes (b ∷ []) x.1) is (byte_takes bytes x.0 x.1 fits e).0

-- what is read as the beginning of a put was spelled so
pub put_begins : (bytes : List ℕ) → IsBytes bytes → ChoiceBeginsAsPut bytes → PutBegins bytes
put_begins bytes fits h =
    let b = ok_and (ballot_at 7 bytes) _ h in
    let tb = ballot_takes 7 (omega arith) bytes b.0 fits b.1 in
    let k = ok_and (byte_at b.0.1) _ b.2 in
    let tk = code_takes b.0.1 k.0 1 tb.takes.rest_fits k.1 k.2.0 in
    let c = ok_and (byte_at k.0.1) _ k.2.1 in
    let tc = (byte_takes k.0.1 c.0.0 c.0.1 tk.rest_fits c.1).0 in
    let n = ok_and (request_number_at c.0.1) _ c.2 in
    let tn = request_number_takes c.0.1 n.0 tc.rest_fits n.1 in
    let o = ok_and (byte_at n.0.1) _ n.2 in
    let to = code_takes n.0.1 o.0 1 tn.takes.rest_fits o.1 o.2.0 in
    let i = is_ok (id_at o.0.1) o.2.1 in
    let ti = id_takes o.0.1 i.0 to.rest_fits i.1 in
    let op = Takes-then n.0.1 (1 ∷ []) o.0.1 (id_bytes i.0.0) i.0.1 to ti.takes in
    let numbered = Takes-then c.0.1 (big_bytes 8 n.0.0) n.0.1 (1 ∷ id_bytes i.0.0) i.0.1 tn.takes op in
    let request = Takes-then k.0.1 (c.0.0 ∷ []) c.0.1 (big_bytes 8 n.0.0 ++ 1 ∷ id_bytes i.0.0) i.0.1 tc numbered in
    let command = Takes-then b.0.1 (1 ∷ []) k.0.1 (c.0.0 ∷ (big_bytes 8 n.0.0 ++ 1 ∷ id_bytes i.0.0)) i.0.1 tk request in
    let whole = Takes-then bytes (ballot_bytes b.0.0) b.0.1 (1 ∷ c.0.0 ∷ (big_bytes 8 n.0.0 ++ 1 ∷ id_bytes i.0.0)) i.0.1 tb.takes command in
    record {
      ballot = b.0.0;
      client = c.0.0;
      number = n.0.0;
      id = i.0.0;
      rest = i.0.1;
      ballot_fits = tb.fits;
      begun = tn.fits.0;
      number_fits = tn.fits.1;
      is_id = ti.fits;
      spelled = whole.parts;
    }

-- ---- checkpoints
-- the record of a checkpoint begins with its position, and goes on with what was promised
record BeginsWith (bytes : List ℕ) (c : Checkpointed) : Type 0 where
  pub position : big_number 4 bytes ≡ c.position
  pub rest : drop 4 bytes ≡ promise_bytes c.promise ++ c.text

checkpoint_begins : (bytes : List ℕ) (c : Checkpointed) → IsCheckpointRecord bytes c → BeginsWith bytes c
checkpoint_begins bytes c is =
    let rest = promise_bytes c.promise ++ c.text in
    let low : c.position ≤ SLOTS = is.in_log in
    let len : length (big_bytes 4 c.position) ≡ 4 = length-bytes_high_first 4 c.position in
    subst (λ (xs : List ℕ). BeginsWith xs c) (sym is.spelled) (record {
      position = big_number-reads_back 4 c.position rest (omega arith);
      rest = drop_at (big_bytes 4 c.position) rest 4 len;
    })

-- before a text, a promise is spelled in its own way alone
one_promise : (p q : Option Ballot) (s t : List ℕ) → IfSome p (BallotFits 7) → IfSome q (BallotFits 7)
    → promise_bytes p ++ s ≡ promise_bytes q ++ t → (p ≡ q) × (s ≡ t)
one_promise None None s t fits also e = (refl, cc)
one_promise None (Some b) s t fits also e = absurd cc
one_promise (Some a) None s t fits also e = absurd cc
one_promise (Some a) (Some b) s t fits also e =
    let same : ballot_bytes a ++ s ≡ ballot_bytes b ++ t = cc in
    let read : ballot_at 7 (ballot_bytes b ++ t) ≡ Ok (a, s) =
    subst (λ (xs : List ℕ). ballot_at 7 xs ≡ Ok (a, s)) same (ballot_again 7 a s fits) in
    let both : (a, s) ≡ (b, t) = ok_is _ _ (sym read ∙ ballot_again 7 b t also) in
    (ap (λ (x : Ballot × List ℕ). Some x.0) {x = (a, s)} {y = (b, t)} both, ap (λ (x : Ballot × List ℕ). x.1) {x = (a, s)} {y = (b, t)} both)

-- the parts make the checkpoint
abbrev made : ℕ → Option Ballot → List ℕ → Checkpointed
made position promise text = record { position = position; promise = promise; text = text }

same_parts : (c d : Checkpointed) → c.position ≡ d.position → c.promise ≡ d.promise → c.text ≡ d.text → c ≡ d
same_parts c d position promise text =
    ap (λ (n : ℕ). made n c.promise c.text) position ∙ ap (λ (p : Option Ballot). made d.position p c.text) promise
    ∙ ap (λ (xs : List ℕ). made d.position d.promise xs) text

-- no bytes are the records of two checkpoints
pub one_checkpoint : (bytes : List ℕ) (c d : Checkpointed) → IsCheckpointRecord bytes c → IsCheckpointRecord bytes d → c ≡ d
one_checkpoint bytes c d is also =
    let first = checkpoint_begins bytes c is in
    let second = checkpoint_begins bytes d also in
    let parts = one_promise c.promise d.promise c.text d.text is.promise also.promise (sym first.rest ∙ second.rest) in
    same_parts c d (sym first.position ∙ second.position) parts.0 parts.1
