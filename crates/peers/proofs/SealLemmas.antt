-- The parts of a packet, found again.
use Rattle.std.proofs.Common.{◌≡◌, ℕ, ◌+◌, List, ◌++◌, length, take, drop, sym, ap, ap₂, ◌∙◌, arith}
use Rattle.std.proofs.lemmas.List.{drop_at, length-append, take_at}
use Rattle.sha2.proofs.Facts256.{length-sha256}
use Rattle.sha2.specs.Sha256.{sha256}
use Rattle.peers.specs.Hmac.{keyed_digest, masked}
use Rattle.peers.specs.Sealing.{Secret, packet_of}

-- ---- of a name, a digest and a frame
parts_len : (name digest frame : List ℕ) → length name ≡ 16 → length digest ≡ 32
    → length (name ++ (digest ++ frame)) ≡ 48 + length frame
parts_len name digest frame n d = omega (arith, n, d, length-append name (digest ++ frame), length-append digest frame)

parts_name : (name digest frame : List ℕ) → length name ≡ 16 → take 16 (name ++ (digest ++ frame)) ≡ name
parts_name name digest frame n = take_at name (digest ++ frame) 16 n

parts_digest : (name digest frame : List ℕ) → length name ≡ 16 → length digest ≡ 32
    → take 32 (drop 16 (name ++ (digest ++ frame))) ≡ digest
parts_digest name digest frame n d =
    ap (λ (xs : List ℕ). take 32 xs) (drop_at name (digest ++ frame) 16 n) ∙ take_at digest frame 32 d

parts_frame : (name digest frame : List ℕ) → length name ≡ 16 → length digest ≡ 32
    → drop 32 (drop 16 (name ++ (digest ++ frame))) ≡ frame
parts_frame name digest frame n d =
    ap (λ (xs : List ℕ). drop 32 xs) (drop_at name (digest ++ frame) 16 n) ∙ drop_at digest frame 32 d

-- ---- of a packet
digest_len : (block message : List ℕ) → length (keyed_digest block message) ≡ 32
digest_len block message = length-sha256 (masked 0x5C block ++ sha256 (masked 0x36 block ++ message))

pub sealed_len : (run : Secret) (packet frame : List ℕ) → length run.name ≡ 16 → packet ≡ packet_of run frame
    → length packet ≡ 48 + length frame
sealed_len run packet frame name is =
    ap (λ (xs : List ℕ). length xs) is
    ∙ parts_len run.name (keyed_digest run.block (run.name ++ frame)) frame name (digest_len run.block (run.name ++ frame))

pub sealed_name : (run : Secret) (packet frame : List ℕ) → length run.name ≡ 16 → packet ≡ packet_of run frame
    → take 16 packet ≡ run.name
sealed_name run packet frame name is =
    ap (λ (xs : List ℕ). take 16 xs) is ∙ parts_name run.name (keyed_digest run.block (run.name ++ frame)) frame name

-- its digest is that of its name and its frame
pub sealed_digest : (run : Secret) (packet frame : List ℕ) → length run.name ≡ 16 → packet ≡ packet_of run frame
    → take 32 (drop 16 packet) ≡ keyed_digest run.block (take 16 packet ++ drop 32 (drop 16 packet))
sealed_digest run packet frame name is =
    let digest = keyed_digest run.block (run.name ++ frame) in
    let len = digest_len run.block (run.name ++ frame) in
    let frame_is : drop 32 (drop 16 packet) ≡ frame =
    ap (λ (xs : List ℕ). drop 32 (drop 16 xs)) is ∙ parts_frame run.name digest frame name len in
    ap (λ (xs : List ℕ). take 32 (drop 16 xs)) is
    ∙ parts_digest run.name digest frame name len
    ∙ sym
    (ap₂ (λ (xs ys : List ℕ). keyed_digest run.block (xs ++ ys)) (sealed_name run packet frame name is) frame_is)
