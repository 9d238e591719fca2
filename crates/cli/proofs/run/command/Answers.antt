use Rattle.std.proofs.Common.{◌≡◌, ◌≢◌, ◌≤◌, ◌⊎◌, ap, arith, inl, inr, refl, sym, ◌∙◌}
use Rattle.commands.specs.Failures.{status_of}
use Rattle.commands.specs.declared.failure.Failure.{Failure}
use Rattle.commands.specs.declared.failure.Failure.TheVariants.{Schedule, Document, NotEmpty, Usage, Device, Memory}
use Rattle.cli.proofs.run.command.Goals as goal

-- which failures have which status
at_most_three : (failure : Failure) → status_of failure ≤ 3
at_most_three (Schedule at) = omega arith
at_most_three (Document at) = omega arith
at_most_three NotEmpty = omega arith
at_most_three Usage = omega arith
at_most_three Device = omega arith
at_most_three Memory = omega arith

not_done : (failure : Failure) → status_of failure ≢ 0
not_done (Schedule at) e = omega arith
not_done (Document at) e = omega arith
not_done NotEmpty e = omega arith
not_done Usage e = omega arith
not_done Device e = omega arith
not_done Memory e = omega arith

is_usage : (failure : Failure) → status_of failure ≡ 2 → failure ≡ Usage
is_usage (Schedule at) e = absurd (omega arith)
is_usage (Document at) e = absurd (omega arith)
is_usage NotEmpty e = absurd (omega arith)
is_usage Usage e = refl
is_usage Device e = absurd (omega arith)
is_usage Memory e = absurd (omega arith)

has_failed : (failure : Failure) → status_of failure ≡ 3 → (failure ≡ Device) ⊎ (failure ≡ Memory)
has_failed (Schedule at) e = absurd (omega arith)
has_failed (Document at) e = absurd (omega arith)
has_failed NotEmpty e = absurd (omega arith)
has_failed Usage e = absurd (omega arith)
has_failed Device e = inl refl
has_failed Memory e = inr refl

is_no_usage : (failure : Failure) → status_of failure ≡ 3 → failure ≢ Usage
is_no_usage failure three usage = absurd (omega (arith, sym three ∙ ap status_of usage))

is_no_device : (failure : Failure) → status_of failure ≢ 3 → failure ≢ Device
is_no_device failure other device = other (ap status_of device)

-- the words that were handed on are those of the call
pub returns-in-Ok : goal.returns-in-Ok
returns-in-Ok g c = record {
  statuses = omega arith;
  words_come_first = λ two. absurd (omega arith);
  file_alone = rw (← c.as_slice.ensures.value) c.run.ensures.file_alone;
  archive_untouched = λ two. absurd (omega arith);
  done = λ zero. rw (← c.as_slice.ensures.value) c.in-Ok.ensures.done;
  unprinted = λ either. absurd (elim either [ inl one ↦ omega arith | inr two ↦ omega arith ]);
  failed_unprinted = λ three. absurd (omega arith);
  done_silently = λ zero. refl;
  faulty = λ one. absurd (omega arith);
  usage = λ two. absurd (omega arith);
  usage_told = λ two. absurd (omega arith);
  no_form = rw (← c.as_slice.ensures.value) (λ none.
      absurd (none c.in-Ok.ensures.done.1.work c.in-Ok.ensures.done.1.asked));
  no_form_unread = rw (← c.as_slice.ensures.value) c.run.ensures.no_form_unread;
  failed_told = λ three. absurd (omega arith);
}

-- the failure whose line is written is the one that the run ended with
pub returns : goal.returns
returns g c = record {
  statuses = rw c.report.ensures.status (at_most_three c.in-Err.failure);
  words_come_first = λ two. c.in-Err.ensures.words_come_first (is_usage _ (sym c.report.ensures.status ∙ two));
  file_alone = rw (← c.as_slice.ensures.value) c.run.ensures.file_alone;
  archive_untouched = λ two. c.in-Err.ensures.archive_untouched (is_usage _ (sym c.report.ensures.status ∙ two));
  done = λ zero. absurd (not_done _ (sym c.report.ensures.status ∙ zero));
  unprinted = λ either. c.in-Err.ensures.untouched (is_no_device _ (λ three. elim either [
    | inl one ↦ omega (arith, c.report.ensures.status)
    | inr two ↦ omega (arith, c.report.ensures.status)
  ]));
  failed_unprinted = λ three. rw (← c.as_slice.ensures.value) (elim (c.in-Err.ensures.unprinted (is_no_usage _ (sym c.report.ensures.status ∙ three))) [
    | inl unprinted ↦ inl (unprinted.0, c.in-Err.failure, sym c.report.ensures.status ∙ three, unprinted.1, c.report.ensures.line)
    | inr printed ↦ inr printed
  ]);
  done_silently = λ zero. absurd (not_done _ (sym c.report.ensures.status ∙ zero));
  faulty = λ one. (
    c.in-Err.failure,
    sym c.report.ensures.status ∙ one,
    rw (← c.as_slice.ensures.value) (c.in-Err.ensures.faulty (sym c.report.ensures.status ∙ one)),
    c.report.ensures.line,
  );
  usage = λ two. rw (← c.as_slice.ensures.value) (c.in-Err.ensures.usage (is_usage _ (sym c.report.ensures.status ∙ two)));
  usage_told = λ two. rw (is_usage _ (sym c.report.ensures.status ∙ two)) at c.report.ensures.line;
  no_form = rw (← c.as_slice.ensures.value) (λ none. elim (c.in-Err.ensures.no_form none) [
    | inl usage ↦ (let e : c.in-Err.failure ≡ Usage = cc in inl (c.report.ensures.status ∙ ap status_of e))
    | inr memory ↦ (let e : c.in-Err.failure ≡ Memory = cc in
        inr (c.report.ensures.status ∙ ap status_of e, rw e at c.report.ensures.line))
  ]);
  no_form_unread = rw (← c.as_slice.ensures.value) c.run.ensures.no_form_unread;
  failed_told = λ three. elim (has_failed _ (sym c.report.ensures.status ∙ three)) [
    | inl device ↦ inl (rw device at c.report.ensures.line)
    | inr memory ↦ inr (rw memory at c.report.ensures.line)
  ];
}
