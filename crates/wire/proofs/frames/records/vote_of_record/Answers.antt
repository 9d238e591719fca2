use Rattle.std.proofs.Common.{rules, ◌≡◌, ap, subst, arith, ℕ, [], length, Some, Err}
use Rattle.std.proofs.lemmas.List.{nil_from_length}
use Rattle.wire.specs.declared.frames.fault.WireFault.TheVariants.{Memory}
use Rattle.wire.specs.Puts.{ChoiceBeginsAsPut}
use Rattle.wire.specs.Reading.{Fails}
use Rattle.wire.specs.RecordForms.{choice_at}
use Rattle.wire.proofs.RecordLaws.{put_begins, choice_is_record, fault_is_no_record, rest_is_no_record, one_record}
use Rattle.wire.proofs.frames.records.vote_of_record.Goals as goal

-- memory was wanted, so a put begins
pub returns-then-is_memory-clause-in_place : goal.returns-then-is_memory-clause-in_place
returns-then-is_memory-clause-in_place c = λ none.
    let wanted : c.in-Err.fault ≡ Memory = c.is_memory.ensures.0 c.if-is_memory.true in
    let begins : ChoiceBeginsAsPut c.args.bytes.now =
    subst ChoiceBeginsAsPut c.new-input.ensures (c.in-Err.ensures.begins (ap Err wanted)) in
    absurd (none (put_begins c.args.bytes.now (λ i. omega (arith, c.type_inv.bytes i)) begins))

-- the bytes have a fault
pub returns-in-Err-clause-read : goal.returns-in-Err-clause-read
returns-in-Err-clause-read c = λ b command is.
    let other : ¬ (c.in-Err.fault ≡ Memory) = λ e. let yes_ = c.is_memory.ensures.1 e in let no_ = c.if-is_memory.false in cc in
    let fails : Fails c.in-Err.fault (choice_at c.args.bytes.now) = search rules in
    absurd (fault_is_no_record c.in-Err.fault other c.args.bytes.now fails b command is)

-- bytes are left
pub returns-then-not-is_empty-clause-read : goal.returns-then-not-is_empty-clause-read
returns-then-not-is_empty-clause-read c = λ b command is.
    let left : ¬ (c.read_choice.new.input ≡ []) = λ e. let none = ap (length {A = ℕ}) e in search rules in
    absurd (rest_is_no_record c.args.bytes.now c.in-Ok.choice c.read_choice.new.input (search rules) left b command is)

-- all of the bytes were read
pub returns-clause-spelled : goal.returns-clause-spelled
returns-clause-spelled c =
    let none : length c.read_choice.new.input ≡ 0 = search rules in
    choice_is_record c.args.bytes.now c.in-Ok.choice.0 c.in-Ok.choice.1 c.read_choice.new.input
    (λ i. omega (arith, c.type_inv.bytes i)) (search rules) (nil_from_length c.read_choice.new.input none)

pub returns-clause-read : goal.returns-clause-read
returns-clause-read c = λ b command is.
    ap Some (one_record c.args.bytes.now c.in-Ok.choice c.read_choice.new.input (search rules) b command is)
