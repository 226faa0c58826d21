-- After each file its lines and faults are counted as those of the files so far, so the limits that hold for all hold for each sum.
use Rattle.std.proofs.{Common.{◌∷◌, [], ◌∙◌, ap, sym, arith}, lemmas.{Grind.{common_steps}, List.{drop_all, take_all, length-map, map-append, Sums.{sum_by-drop_more}}}}
use Rattle.kalah_jobs.specs.{jobs_for, lines_in, lines_in_all, declared.files.jobs.FileJobs.{FileJobs}}
use Rattle.kalah_jobs.proofs.FilesLemmas.{length-entries_for, one_more_read}
use Rattle.kalah_jobs.proofs.files.jobs.Jobs.with_question.Goals as goal

pub overflow_add-faults : goal.overflow_add-faults
overflow_add-faults c =
    let so_far = c.loop-file.invariant.files in
    grind (arith, common_steps, so_far.lines, so_far.fewer, c.if-not-are_lines_within_limit.ensures)

pub overflow_cast-start : goal.overflow_cast-start
overflow_cast-start c = omega (arith, c.loop-file.invariant.files.lines, c.if-not-are_lines_within_limit.ensures)

pub overflow_add-before : goal.overflow_add-before
overflow_add-before c =
    let left = sum_by-drop_more lines_in c.args.files.now c.loop-file.file-index in
    grind (arith, length-entries_for, c.if-not-are_lines_within_limit.ensures)

pub overflow_cast-result-2 : goal.overflow_cast-result-2
overflow_cast-result-2 c =
    omega (arith, c.loop-file.invariant.files.lines, c.loop-file.invariant.files.fewer, c.if-not-are_lines_within_limit.ensures)

pub invariant_of-result : goal.invariant_of-result
invariant_of-result c =
    let so_far = c.loop-file.invariant.files in
    let none = ap lines_in_all (drop_all c.loop-file.file-index c.args.files.now (omega (arith, c.loop-file-test.false))) in (
      record {
        few_files = omega (arith, so_far.many, c.loop-file.auto.file-index-end, c.if-files-gt-MOST_FILES.false);
        lines_within_limit = omega (arith, so_far.before_is, so_far.lines, c.if-not-are_lines_within_limit.ensures);
        all = omega (arith, so_far.before_is, so_far.lines, c.if-not-are_lines_within_limit.ensures);
        faulty = so_far.faults_are;
      },
      so_far.starts_are,
    )

pub returns : goal.returns
returns c =
    let all = take_all c.loop-file.file-index c.args.files.now (omega (arith, c.loop-file-test.false)) in (
      (omega (arith, c.if-files-gt-MOST_FILES.false), omega (arith, c.if-not-are_lines_within_limit.ensures)),
      c.loop-file.invariant.files.read ∙ ap (jobs_for c.args.question) all,
    )

pub push_reserved-requires : goal.push_reserved-requires
push_reserved-requires c =
    let same = length-map c.loop-file.read.items (λ file. file.entries.items) in
    omega (arith, c.loop-file.invariant.files.many, c.loop-file.invariant.room, c.loop-file-test.true)

pub loop-file-preserved : goal.loop-file-preserved
loop-file-preserved c =
    let so_far = c.loop-file.invariant in
    let entries = c.in_ok-entries.entries in
    let new : FileJobs = record { entries = entries; start = c.loop-file.before } in
    record {
      files = rw (
        c.push_reserved.ensures.items,
        map-append (λ (file : FileJobs). file.entries.items) c.loop-file.read.items (new ∷ []),
        map-append (λ (file : FileJobs). file.start) c.loop-file.read.items (new ∷ []),
      ) (one_more_read c.file-item.result so_far.files c.loop-file-test.true c.file-item.is
          c.in_ok-entries.ensures.read (c.len-before.ensures ∙ entries.ok.0) (sym c.in_ok-entries.ensures.faults));
      room = omega (arith, c.push_reserved.ensures.capacity, so_far.room);
    }
