-- What is read of a frame was spelled so, and may be sent; and what may be sent is read from its spelling.
use Rattle.std.proofs.Common.{◌≡◌, ℕ, ◌≤◌, true, false, cond, eqb, ltb, List, [], ◌∷◌, ◌++◌, length, Ok, Err}
use Rattle.std.proofs.Common.{refl, sym, ap, subst, ◌∙◌, append_assoc, arith, inl, inr}
use Rattle.std.proofs.lemmas.Bool.Decides.{nat_tests}
use Rattle.std.proofs.lemmas.Bool.{cases_Bool}
use Rattle.std.proofs.lemmas.List.{append-nil}
use Rattle.wire.specs.declared.frames.fault.WireFault.TheVariants.{Trailing, Long}
use Rattle.wire.specs.declared.frames.envelope.Envelope.{Envelope}
use Rattle.wire.specs.declared.frames.envelope.TheConstants.{LONGEST_FRAME}
use Rattle.wire.specs.declared.frames.kind.Kind.{Kind}
use Rattle.wire.specs.Kinds.{kind_of}
use Rattle.wire.specs.FrameSpelling.{body_bytes, head_bytes, spelling, Fits, IsFrame}
use Rattle.wire.specs.FrameReading.{Head, head_at, message_at, envelope_at, frame_in}
use Rattle.fields.proofs.FieldLemmas.{IsBytes, bind_ok, guard_ok, ok_is, Takes, Takes-then, Took, is_equal}
use Rattle.wire.proofs.BodyLaws.{message_takes, message_again}
use Rattle.wire.proofs.HeadLaws.{head_text, HeadFits, head_takes, head_again}

-- ---- envelopes
pub envelope_takes : (nodes : ℕ) → nodes ≤ 7 → (bytes : List ℕ) (x : Envelope × List ℕ) → IsBytes bytes → envelope_at nodes bytes ≡ Ok x
    → Took spelling (Fits nodes) bytes x
unfolding envelope_at
envelope_takes nodes few bytes x fits e =
    let h = bind_ok (head_at nodes bytes) _ x e in
    let th = head_takes nodes bytes h.0 fits h.1 in
    let m = bind_ok (message_at h.0.0.kind nodes h.0.1) _ x h.2 in
    let tm = message_takes h.0.0.kind nodes few h.0.1 m.0 th.takes.rest_fits m.1 in
    let both = Takes-then bytes (head_text h.0.0) h.0.1 (body_bytes m.0.0) m.0.1 th.takes tm.takes in
    let made : Envelope = record { from = h.0.0.from; to = h.0.0.to; message = m.0.0 } in
    let spelled : Takes bytes (spelling made) m.0.1 =
    subst (λ (k : Kind). Takes bytes (head_bytes k h.0.0.from h.0.0.to ++ body_bytes m.0.0) m.0.1) (sym tm.kind) both in
    let fit : Fits nodes made = record { from = th.fits.from; to = th.fits.to; message = tm.fits } in
    let it : Took spelling (Fits nodes) bytes (made, m.0.1) = record { takes = spelled; fits = fit } in
    subst (Took spelling (Fits nodes) bytes) (ok_is _ _ m.2) it

pub envelope_again : (nodes : ℕ) (e : Envelope) (rest : List ℕ) → Fits nodes e → envelope_at nodes (spelling e ++ rest) ≡ Ok (e, rest)
unfolding envelope_at
envelope_again nodes e rest fits =
    let head : Head = record { kind = kind_of e.message; from = e.from; to = e.to } in
    let body = body_bytes e.message ++ rest in
    let fit : HeadFits nodes head = record { from = fits.from; to = fits.to } in
    ap (envelope_at nodes) (append_assoc (head_text head) (body_bytes e.message) rest)
    ∙ rw (head_again nodes head body fit, message_again nodes e.message rest fits.message) refl

-- ---- frames
-- no frame is a proper beginning of another, and no bytes spell two envelopes
pub no_beginning : (nodes : ℕ) (a b rest : List ℕ) (e f : Envelope) → IsFrame nodes a e → IsFrame nodes b f → a ++ rest ≡ b → (e ≡ f)
    × (rest ≡ [])
no_beginning nodes a b rest e f fa fb whole =
    let same : spelling e ++ rest ≡ spelling f ++ [] = ap (λ (x : List ℕ). x ++ rest) (sym fa.spelled) ∙ whole ∙ fb.spelled
    ∙ sym (append-nil (spelling f)) in
    let both : (e, rest) ≡ (f, []) = ok_is _ _ (sym (envelope_again nodes e rest fa.fits) ∙ ap (envelope_at nodes) same
    ∙ envelope_again nodes f [] fb.fits) in
    (ap (λ (p : Envelope × List ℕ). p.0) both, ap (λ (p : Envelope × List ℕ). p.1) both)

empty_list : (xs : List ℕ) → eqb (length xs) 0 ≡ true → xs ≡ []
empty_list [] e = refl
empty_list (x ∷ xs) e = absurd (let h : length (x ∷ xs) ≡ 0 = is_equal _ _ e in omega arith)

ending : (x : Envelope × List ℕ) (e : Envelope) → cond (eqb (length x.1) 0) (Ok x.0) (Err Trailing) ≡ Ok e → (x.0 ≡ e) × (x.1 ≡ [])
ending x e h =
    elim (cases_Bool (eqb (length x.1) 0)) [
      | inl none ↦ (ok_is _ _ (rw none at h), empty_list x.1 none)
      | inr more ↦ absurd (let bad = rw more at h in cc)
    ]

pub frame_found : (nodes : ℕ) → nodes ≤ 7 → (bytes : List ℕ) (e : Envelope) → IsBytes bytes → frame_in nodes bytes ≡ Ok e
    → IsFrame nodes bytes e
unfolding frame_in
frame_found nodes few bytes e fits is =
    let g = guard_ok (ltb LONGEST_FRAME (length bytes)) Long _ e is in
    let x = bind_ok (envelope_at nodes bytes) _ e g.1 in
    let t = envelope_takes nodes few bytes x.0 fits x.1 in
    let end = ending x.0 e x.2 in
    let spelled : bytes ≡ spelling x.0.0 = t.takes.parts ∙ ap (λ (r : List ℕ). spelling x.0.0 ++ r) end.1 ∙ append-nil (spelling x.0.0) in
    subst (IsFrame nodes bytes) end.0 (record { fits = t.fits; spelled = spelled })

pub frame_only : (nodes : ℕ) (bytes : List ℕ) (e : Envelope) → IsFrame nodes bytes e → length bytes ≤ LONGEST_FRAME → frame_in nodes bytes
    ≡ Ok e
unfolding frame_in
frame_only nodes bytes e f short =
    let right : ltb LONGEST_FRAME (length bytes) ≡ false = grind (arith, nat_tests) in
    let whole : bytes ≡ spelling e ++ [] = f.spelled ∙ sym (append-nil (spelling e)) in
    let read : envelope_at nodes bytes ≡ Ok (e, []) = ap (envelope_at nodes) whole ∙ envelope_again nodes e [] f.fits in
    rw (right, read) refl
