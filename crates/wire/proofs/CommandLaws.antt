-- Operations and commands: what is read was spelled so, and fits; and what fits is read from its spelling.
use Rattle.std.proofs.Common.{◌≡◌, ℕ, ◌^◌, ◌<◌, ◌≤◌, false, eqb, List, [], ◌∷◌, ◌++◌, Ok, refl, sym, ap, subst, ◌∙◌, append_assoc, arith}
use Rattle.std.proofs.Common.{inl, inr}
use Rattle.std.proofs.lemmas.Bool.Decides.{nat_tests}
use Rattle.byteorder.specs.Endian.{big_bytes}
use Rattle.tpoint.specs.Ids.{IsId}
use Rattle.tpoint.specs.Moving.{Sequence}
use Rattle.tpoint.specs.declared.point.Point.{Point}
use Rattle.store.specs.declared.op.Op.{Op}
use Rattle.store.specs.declared.op.Op.TheVariants.{Put, Append, Remove}
use Rattle.sessions.specs.declared.submission.Submission.{Submission}
use Rattle.sessions.specs.declared.command.Command.{Command}
use Rattle.sessions.specs.declared.command.Command.TheVariants.{NoOp, Request}
use Rattle.wire.specs.declared.frames.fault.WireFault.TheVariants.{Field}
use Rattle.sessions.specs.declared.request.TheConstants.{MOST_PUT_POINTS}
use Rattle.fields.specs.Spelling.{id_bytes, triple_bytes, TripleFits, sequence_bytes, SequenceFits}
use Rattle.fields.specs.Reading.{byte_at, number_at, id_at, triple_at, sequence_at}
use Rattle.fields.proofs.FieldLemmas.{IsBytes, bind_ok, guard_ok, chosen, ok_is, Takes, Takes-then, Took, number_takes, number_again, back8}
use Rattle.fields.proofs.FieldLemmas.{byte_takes, from_zero, is_equal}
use Rattle.fields.proofs.FieldLaws.{id_takes, id_again, triple_takes, triple_again, sequence_takes, sequence_again}
use Rattle.wire.specs.Spelling.{op_bytes, OpFits, request_bytes, RequestFits, command_bytes, CommandFits}
use Rattle.wire.specs.Reading.{Read, put_at, append_at, remove_at, op_at, request_number_at, request_at, asked_at, command_at}
use Rattle.wire.proofs.WideLemmas.{bind_wide}

-- ---- operations: what stands behind the first byte, and then the whole
op_case : (bytes after : List ℕ) (byte : ℕ) (code : ℕ) (body : List ℕ) (op : Op) (rest : List ℕ) → Takes bytes (byte ∷ []) after → byte
    ≡ code → Takes after body rest
    → op_bytes op ≡ code ∷ body → OpFits op → Took op_bytes OpFits bytes (op, rest)
op_case bytes after byte code body op rest t is u spelled fits =
    let both : Takes bytes (byte ∷ body) rest = Takes-then bytes (byte ∷ []) after body rest t u in
    let coded : Takes bytes (code ∷ body) rest = subst (λ (b : ℕ). Takes bytes (b ∷ body) rest) is both in
    record { takes = subst (λ (text : List ℕ). Takes bytes text rest) (sym spelled) coded; fits = fits }

put_takes : (bytes after : List ℕ) (byte : ℕ) (x : Op × List ℕ) → Takes bytes (byte ∷ []) after → byte ≡ 1 → put_at after ≡ Ok x
    → Took op_bytes OpFits bytes x
unfolding put_at
put_takes bytes after byte x t is e =
    let a = bind_wide (id_at after) _ x e in
    let b = bind_wide (sequence_at MOST_PUT_POINTS a.0.1) _ x a.2 in
    let u = id_takes after a.0 t.rest_fits a.1 in
    let v = sequence_takes MOST_PUT_POINTS a.0.1 b.0 u.takes.rest_fits b.1 in
    let both = Takes-then after (id_bytes a.0.0) a.0.1 (sequence_bytes b.0.0) b.0.1 u.takes v.takes in
    subst (Took op_bytes OpFits bytes) (ok_is _ _ b.2)
    (op_case bytes after byte 1 (id_bytes a.0.0 ++ sequence_bytes b.0.0) (Put a.0.0 b.0.0) b.0.1 t is both refl (u.fits, v.fits))

append_takes : (bytes after : List ℕ) (byte : ℕ) (x : Op × List ℕ) → Takes bytes (byte ∷ []) after → byte ≡ 2 → append_at after ≡ Ok x
    → Took op_bytes OpFits bytes x
unfolding append_at
append_takes bytes after byte x t is e =
    let a = bind_wide (id_at after) _ x e in
    let b = bind_wide (triple_at a.0.1) _ x a.2 in
    let u = id_takes after a.0 t.rest_fits a.1 in
    let v = triple_takes a.0.1 b.0 u.takes.rest_fits b.1 in
    let both = Takes-then after (id_bytes a.0.0) a.0.1 (triple_bytes b.0.0) b.0.1 u.takes v.takes in
    subst (Took op_bytes OpFits bytes) (ok_is _ _ b.2)
    (op_case bytes after byte 2 (id_bytes a.0.0 ++ triple_bytes b.0.0) (Append (record { id = a.0.0; point = b.0.0 })) b.0.1 t is both refl
    (u.fits, v.fits))

remove_takes : (bytes after : List ℕ) (byte : ℕ) (x : Op × List ℕ) → Takes bytes (byte ∷ []) after → byte ≡ 3 → remove_at after ≡ Ok x
    → Took op_bytes OpFits bytes x
unfolding remove_at
remove_takes bytes after byte x t is e =
    let a = bind_wide (id_at after) _ x e in
    let u = id_takes after a.0 t.rest_fits a.1 in
    subst (Took op_bytes OpFits bytes) (ok_is _ _ a.2)
    (op_case bytes after byte 3 (id_bytes a.0.0) (Remove a.0.0) a.0.1 t is u.takes refl u.fits)

pub op_takes : (bytes : List ℕ) (x : Op × List ℕ) → IsBytes bytes → op_at bytes ≡ Ok x → Took op_bytes OpFits bytes x
unfolding op_at
op_takes bytes x fits e =
    let b = bind_wide (byte_at bytes) _ x e in
    let t = byte_takes bytes b.0.0 b.0.1 fits b.1 in
    elim (chosen (eqb b.0.0 1) _ _ x b.2) [
      | inl one ↦ put_takes bytes b.0.1 b.0.0 x t.0 (is_equal _ _ one.0) one.1
      | inr more ↦ elim (chosen (eqb b.0.0 2) _ _ x more.1) [
        | inl two ↦ append_takes bytes b.0.1 b.0.0 x t.0 (is_equal _ _ two.0) two.1
        | inr others ↦ elim (chosen (eqb b.0.0 3) _ _ x others.1) [
          | inl three ↦ remove_takes bytes b.0.1 b.0.0 x t.0 (is_equal _ _ three.0) three.1
          | inr none ↦ absurd (let bad = none.1 in cc)
        ]
      ]
    ]

put_again : (id : List ℕ) (s : Sequence) (rest : List ℕ) → IsId id → SequenceFits MOST_PUT_POINTS s → put_at ((id_bytes id ++ sequence_bytes s) ++ rest)
    ≡ Ok (Put id s, rest)
unfolding put_at
put_again id s rest valid fits =
    ap put_at (append_assoc (id_bytes id) (sequence_bytes s) rest)
    ∙ rw (id_again id (sequence_bytes s ++ rest) valid, sequence_again MOST_PUT_POINTS s rest (omega arith) fits) refl

append_again : (id : List ℕ) (p : Point) (rest : List ℕ) → IsId id → TripleFits p → append_at ((id_bytes id ++ triple_bytes p) ++ rest)
    ≡ Ok (Append (record { id = id; point = p }), rest)
unfolding append_at
append_again id p rest valid fits =
    ap append_at (append_assoc (id_bytes id) (triple_bytes p) rest)
    ∙ rw (id_again id (triple_bytes p ++ rest) valid, triple_again p rest fits) refl

remove_again : (id rest : List ℕ) → IsId id → remove_at (id_bytes id ++ rest) ≡ Ok (Remove id, rest)
unfolding remove_at
remove_again id rest valid = rw (id_again id rest valid) refl

pub op_again : (op : Op) (rest : List ℕ) → OpFits op → op_at (op_bytes op ++ rest) ≡ Ok (op, rest)
unfolding op_at
op_again (Put id s) rest fits = put_again id s rest fits.0 fits.1
op_again (Append a) rest fits = append_again a.id a.point rest fits.0 fits.1
op_again (Remove id) rest fits = remove_again id rest fits

-- ---- requests
abbrev pub IsNumber : ℕ → Type 0
IsNumber n = (1 ≤ n) × (n < 2 ^ 64)

pub request_number_takes : (bytes : List ℕ) (x : ℕ × List ℕ) → IsBytes bytes → request_number_at bytes ≡ Ok x
    → Took (big_bytes 8) IsNumber bytes x
unfolding request_number_at
request_number_takes bytes x fits e =
    let r = bind_wide (number_at 8 bytes) _ x e in
    let t = number_takes 8 back8 bytes r.0.0 r.0.1 fits r.1 in
    let g = guard_ok (eqb r.0.0 0) Field _ x r.2 in
    let it : Took (big_bytes 8) IsNumber bytes r.0 = record { takes = t.0; fits = (from_zero r.0.0 g.0, t.1) } in
    subst (Took (big_bytes 8) IsNumber bytes) (ok_is _ _ g.1) it

request_number_again : (n : ℕ) (rest : List ℕ) → 1 ≤ n → n < 2 ^ 64 → request_number_at (big_bytes 8 n ++ rest) ≡ Ok (n, rest)
unfolding request_number_at
request_number_again n rest some low =
    let first = number_again 8 n rest low in
    let right : eqb n 0 ≡ false = grind (arith, nat_tests) in
    rw (first, right) refl

pub request_takes : (bytes : List ℕ) (x : Submission × List ℕ) → IsBytes bytes → request_at bytes ≡ Ok x → Took request_bytes RequestFits bytes x
unfolding request_at
request_takes bytes x fits e =
    let a = bind_wide (byte_at bytes) _ x e in
    let b = bind_ok (request_number_at a.0.1) _ x a.2 in
    let c = bind_ok (op_at b.0.1) _ x b.2 in
    let t = byte_takes bytes a.0.0 a.0.1 fits a.1 in
    let u = request_number_takes a.0.1 b.0 t.0.rest_fits b.1 in
    let v = op_takes b.0.1 c.0 u.takes.rest_fits c.1 in
    let two = Takes-then a.0.1 (big_bytes 8 b.0.0) b.0.1 (op_bytes c.0.0) c.0.1 u.takes v.takes in
    let three = Takes-then bytes (a.0.0 ∷ []) a.0.1 (big_bytes 8 b.0.0 ++ op_bytes c.0.0) c.0.1 t.0 two in
    let made : Submission = record { client = a.0.0; number = b.0.0; op = c.0.0 } in
    let it : Took request_bytes RequestFits bytes (made, c.0.1) =
    record { takes = three; fits = record { client = t.1; begun = u.fits.0; number = u.fits.1; op = v.fits } } in
    subst (Took request_bytes RequestFits bytes) (ok_is _ _ c.2) it

pub request_again : (r : Submission) (rest : List ℕ) → RequestFits r → request_at (request_bytes r ++ rest) ≡ Ok (r, rest)
unfolding request_at
request_again r rest fits =
    let op = op_bytes r.op ++ rest in
    let regrouped : request_bytes r ++ rest ≡ r.client ∷ (big_bytes 8 r.number ++ op) =
    ap (λ (xs : List ℕ). r.client ∷ xs) (append_assoc (big_bytes 8 r.number) (op_bytes r.op) rest) in
    ap request_at regrouped ∙ rw (request_number_again r.number op fits.begun fits.number, op_again r.op rest fits.op) refl

-- ---- commands
asked_takes : (bytes after : List ℕ) (byte : ℕ) (x : Command × List ℕ) → Takes bytes (byte ∷ []) after → byte ≡ 1 → asked_at after ≡ Ok x
    → Took command_bytes CommandFits bytes x
unfolding asked_at
asked_takes bytes after byte x t is e =
    let a = bind_ok (request_at after) _ x e in
    let u = request_takes after a.0 t.rest_fits a.1 in
    let both = Takes-then bytes (byte ∷ []) after (request_bytes a.0.0) a.0.1 t u.takes in
    let it : Took command_bytes CommandFits bytes (Request a.0.0, a.0.1) =
    record { takes = subst (λ (b : ℕ). Takes bytes (b ∷ request_bytes a.0.0) a.0.1) is both; fits = u.fits } in
    subst (Took command_bytes CommandFits bytes) (ok_is _ _ a.2) it

no_op_takes : (bytes after : List ℕ) (byte : ℕ) (x : Command × List ℕ) → Takes bytes (byte ∷ []) after → byte ≡ 0
    → ◌≡◌ {A = Read Command} (Ok (NoOp, after)) (Ok x) → Took command_bytes CommandFits bytes x
no_op_takes bytes after byte x t is e =
    let it : Took command_bytes CommandFits bytes (NoOp, after) = record
    { takes = subst (λ (b : ℕ). Takes bytes (b ∷ []) after) is t; fits = tt } in
    subst (Took command_bytes CommandFits bytes) (ok_is _ _ e) it

pub command_takes : (bytes : List ℕ) (x : Command × List ℕ) → IsBytes bytes → command_at bytes ≡ Ok x
    → Took command_bytes CommandFits bytes x
unfolding command_at
command_takes bytes x fits e =
    let b = bind_wide (byte_at bytes) _ x e in
    let t = byte_takes bytes b.0.0 b.0.1 fits b.1 in
    elim (chosen (eqb b.0.0 0) _ _ x b.2) [
      | inl nothing ↦ no_op_takes bytes b.0.1 b.0.0 x t.0 (is_equal _ _ nothing.0) nothing.1
      | inr more ↦ elim (chosen (eqb b.0.0 1) _ _ x more.1) [
        | inl one ↦ asked_takes bytes b.0.1 b.0.0 x t.0 (is_equal _ _ one.0) one.1
        | inr none ↦ absurd (let bad = none.1 in cc)
      ]
    ]

asked_again : (r : Submission) (rest : List ℕ) → RequestFits r → asked_at (request_bytes r ++ rest) ≡ Ok (Request r, rest)
unfolding asked_at
asked_again r rest fits = rw (request_again r rest fits) refl

pub command_again : (c : Command) (rest : List ℕ) → CommandFits c → command_at (command_bytes c ++ rest) ≡ Ok (c, rest)
unfolding command_at
command_again NoOp rest fits = refl
command_again (Request r) rest fits = asked_again r rest fits
