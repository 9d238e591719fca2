use Rattle.std.proofs.Common.{◌≡◌, ◌≢◌, ◌⊎◌, List, ℕ, inl, inr, refl, rules, arith}
use Rattle.std.proofs.lemmas.Result.{IfErr-weaker, err_from_is_err_and, on_ok_weaker}
use Rattle.args.specs.Forms.{NameInput, NameSource, text_of}
use Rattle.cli.specs.Words.{failure_of}
use Rattle.commands.specs.Failures.{status_of}
use Rattle.args.specs.declared.fault.WordsFault.{WordsFault}
use Rattle.args.specs.declared.fault.WordsFault.TheVariants as words
use Rattle.commands.specs.declared.failure.Failure.{Failure}
use Rattle.commands.specs.declared.failure.Failure.TheVariants.{Usage, Device, Memory}
use Rattle.args.specs.declared.job.Source.{Source}
use Rattle.args.specs.declared.job.Source.TheVariants.{Input}
use Rattle.cli.proofs.run.run.Goals as goal

-- words that don't name the input name a file
no_input : (words : List (List ℕ)) (source : Source) → NameSource words source → ¬ NameInput words → source ≢ Input
no_input words source named other input = other (rw input at named)

-- a source that can't be read is neither usage nor a fault of what was read
no_fault : (failure : Failure) → (failure ≡ Device) ⊎ (failure ≡ Memory) → status_of failure ≢ 1
no_fault failure (inl device) = rw device (λ one. omega arith)
no_fault failure (inr memory) = rw memory (λ one. omega arith)

no_usage : (failure : Failure) → (failure ≡ Device) ⊎ (failure ≡ Memory) → failure ≢ Usage
no_usage failure (inl device) = λ usage. cc
no_usage failure (inr memory) = λ usage. cc

-- of the faults of words the one that is not usage is memory
memory_alone : (fault : WordsFault) (failure : Failure) → failure ≡ failure_of fault → failure ≢ Usage → failure ≡ Memory
memory_alone words.NoForm failure is other = absurd (other is)
memory_alone words.Memory failure is other = is

-- words that have no job end before anything is read
pub returns-in-Err : goal.returns-in-Err
returns-in-Err g c = record {
  done = tt;
  faulty = search rules;
  usage = search rules;
  no_form = search rules;
  no_form_unread = λ none. refl;
  untouched = λ other. refl;
  unprinted = λ other. inl (refl, inl (memory_alone _ _ c.words_failure.ensures other, refl));
  words_come_first = λ usage. refl;
  file_alone = λ other. refl;
  archive_untouched = λ usage. refl;
}

-- so does a source that can't be read, before the archive is asked for records
pub returns-in_err-bytes : goal.returns-in_err-bytes
returns-in_err-bytes g c =
    let p = err_from_is_err_and c.from_residual.result c.from_residual.ensures.1 in
    rw (p.1, p.2) (record {
      done = tt;
      faulty = λ one. absurd (no_fault _ c.in_err-bytes.ensures.err one);
      usage = λ usage. absurd (no_usage _ c.in_err-bytes.ensures.err usage);
      no_form = λ none. absurd (none c.in-Ok.job.work c.in-Ok.ensures.work);
      no_form_unread = λ none. absurd (none c.in-Ok.job.work c.in-Ok.ensures.work);
      untouched = λ other. refl;
      unprinted = λ other. inl (
        refl,
        inr (inl (record {
          source = c.in-Ok.job.source;
          named = c.in-Ok.ensures.source;
          gives_none = c.in_err-bytes.ensures.gives_none;
        })),
      );
      words_come_first = λ usage. absurd (no_usage _ c.in_err-bytes.ensures.err usage);
      file_alone = λ other. c.read_source.ensures.file_alone (no_input _ _ c.in-Ok.ensures.source other);
      archive_untouched = λ usage. absurd (no_usage _ c.in_err-bytes.ensures.err usage);
    })

-- the words' job is done on the bytes that they name, or ends on them
pub returns : goal.returns
returns g c =
    let result = c.print_work.result in
    let ends = c.print_work.ensures.ends in
    let no_usage = c.print_work.ensures.no_usage in
    record {
      done = on_ok_weaker result (λ made. (
        made.0,
        record {
          work = c.in-Ok.job.work;
          folder = text_of c.in-Ok.job.folder;
          asked = c.in-Ok.ensures.work;
          kept = c.in-Ok.ensures.folder;
          source = c.in-Ok.job.source;
          named = c.in-Ok.ensures.source;
          bytes = c.as_slice.result.now;
          read = c.read_source.new.archive;
          gives = rw c.as_slice.ensures.value c.in_ok-bytes.ensures.gives;
          made = made.1;
        },
        made.2,
      )) c.print_work.ensures.done;
      faulty = IfErr-weaker result _ _ (λ failure ended one. elim ended [
        | inl unprinted ↦ record {
          work = c.in-Ok.job.work;
          folder = text_of c.in-Ok.job.folder;
          asked = c.in-Ok.ensures.work;
          kept = c.in-Ok.ensures.folder;
          source = c.in-Ok.job.source;
          named = c.in-Ok.ensures.source;
          bytes = c.as_slice.result.now;
          read = c.read_source.new.archive;
          gives = rw c.as_slice.ensures.value c.in_ok-bytes.ensures.gives;
          ends = unprinted.1;
        }
        | inr failed ↦ absurd (no_fault failure (inl failed.0) one)
      ]) ends;
      usage = IfErr-weaker result _ _ (λ failure other usage. absurd (other usage)) no_usage;
      no_form = λ none. absurd (none c.in-Ok.job.work c.in-Ok.ensures.work);
      no_form_unread = λ none. absurd (none c.in-Ok.job.work c.in-Ok.ensures.work);
      untouched = IfErr-weaker result _ _ (λ failure ended other. elim ended [
        | inl unprinted ↦ unprinted.0
        | inr failed ↦ absurd (other failed.0)
      ]) ends;
      unprinted = IfErr-weaker result _ _ (λ failure ended other. elim ended [
        | inl unprinted ↦ inl (
          unprinted.0,
          inr (inr (record {
            work = c.in-Ok.job.work;
            folder = text_of c.in-Ok.job.folder;
            asked = c.in-Ok.ensures.work;
            kept = c.in-Ok.ensures.folder;
            source = c.in-Ok.job.source;
            named = c.in-Ok.ensures.source;
            bytes = c.as_slice.result.now;
            read = c.read_source.new.archive;
            gives = rw c.as_slice.ensures.value c.in_ok-bytes.ensures.gives;
            ends = unprinted.1;
          })),
        )
        | inr failed ↦ inr (
          failed.1,
          record {
            work = c.in-Ok.job.work;
            folder = text_of c.in-Ok.job.folder;
            asked = c.in-Ok.ensures.work;
            kept = c.in-Ok.ensures.folder;
            source = c.in-Ok.job.source;
            named = c.in-Ok.ensures.source;
            bytes = c.as_slice.result.now;
            read = c.read_source.new.archive;
            gives = rw c.as_slice.ensures.value c.in_ok-bytes.ensures.gives;
            made = failed.2;
          },
          failed.3,
        )
      ]) ends;
      words_come_first = IfErr-weaker result _ _ (λ failure other usage. absurd (other usage)) no_usage;
      file_alone = λ other. c.read_source.ensures.file_alone (no_input _ _ c.in-Ok.ensures.source other);
      archive_untouched = IfErr-weaker result _ _ (λ failure other usage. absurd (other usage)) no_usage;
    }
