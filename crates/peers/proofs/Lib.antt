-- how bytes are compared, one by one
mod Comparing
-- the parts of a packet
mod SealLemmas
-- how streams are cut
mod CutLemmas
mod StreamLemmas
