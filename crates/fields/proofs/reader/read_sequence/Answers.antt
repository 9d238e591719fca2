use Rattle.fields.proofs.SequenceLemmas.{sequence_fits, valid_from_fit}
use Rattle.fields.proofs.reader.read_sequence.Goals as goal

-- what was read is a sequence
pub unwrap-requires : goal.unwrap-requires
unwrap-requires c =
    c.new.ensures.valid.1 (valid_from_fit c.args.most _ c.requires (sequence_fits c.args.most c.in_ok-interp.interp c.in_ok-count.count c.read_count.new.input _
    c.in_ok-points.points.items c.in_ok-points.ensures.read c.in_ok-count.ensures.some c.in_ok-count.ensures.few))
