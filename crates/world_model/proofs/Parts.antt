-- The checkpoints that are put, and the parts of texts that nodes send and hold.
pub mod CheckpointPuts
pub mod SentParts
pub mod HeldParts
