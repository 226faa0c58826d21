-- The search keeps between which files the job lies; the lines before its file say which of the file's lines it is.
use Rattle.std.proofs.{Common.{◌-◌, ap, length, arith}, lemmas.{Grind.{common_steps}, List.{get_or_default, get_or-map, length-map}, Option.{slice_get-get_or}}}
use Rattle.kalah_jobs.proofs.FilesLemmas.{lines_between, slice_get-job_list}
use Rattle.kalah_jobs.proofs.files.jobs.Jobs.find.Goals as goal

pub overflow_cast-result : goal.overflow_cast-result
overflow_cast-result c =
    let found = c.loop-past.invariant in
    omega (arith, found.some, found.within, ap length c.self.view_is, c.self.invariant.0.few_files)

pub returns : goal.returns
returns c =
    let line = c.args.n - c.index-found.result.now.start in
    let entry = c.index-2.result.now in
    grind (
      arith,
      get_or_default,
      get_or-map,
      length-map,
      lines_between c.args.self.now c.loop-past.file,
      slice_get-job_list c.args.self.now c.loop-past.file line c.args.n entry,
      slice_get-get_or c.index-found.result.now.entries.items line entry,
      c.self.invariant.1.before c.loop-past.file,
    )

pub index-requires-2 : goal.index-requires-2
index-requires-2 c = grind (arith, common_steps, lines_between c.args.self.now c.loop-past.file, c.self.invariant.1.before c.loop-past.file)
