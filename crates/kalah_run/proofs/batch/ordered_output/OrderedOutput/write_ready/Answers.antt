-- Each round writes the next line of the current file, or goes on to the next file once all lines of this one are written.
use Rattle.std.proofs.{lemmas.Grind.{common_steps}, Common.{arith, refl, ◌<◌, ap, length, ◌∙◌}}
use Rattle.kalah_jobs.{specs.Files.NamedBytes.{NamedBytes}, proofs.{CollectingLemmas.{files_many}, SinkLemmas.{given_then}}}
use Rattle.kalah_run.proofs.OutputLemmas.{under_way_after_line, under_way_after_no_line, under_way_in_next_file, writes_then, text_of_taken}
use Rattle.kalah_run.proofs.batch.ordered_output.OrderedOutput.write_ready.Goals as goal

pub bounds-files-f : goal.bounds-files-f
bounds-files-f g c = omega (arith, c.loop-self-test.true, c.files.ensures.count, c.loop-self.self.as_many)

pub loop-self-preserved-in-Some : goal.loop-self-preserved-in-Some
loop-self-preserved-in-Some g c =
    let r = c.loop-self.self in
    let low : r.current < length r.files.now = omega (arith, c.loop-self-test.true, c.files.ensures.count, r.as_many) in
    let line = c.write_answer_unless_failed.ensures in
    let text = text_of_taken r.files.now r.current c.index-files-f.result c.as_str.result.now c.in-Some.taken low c.index-files-f.is
    (c.as_str.ensures.value ∙ ap (λ (x : NamedBytes). x.name) c.file.view_is) in
    record {
      given = (_, given_then g.W.Sink.state c.loop-self.invariant.given.1 line);
      writes = writes_then c.loop-self.invariant.writes refl refl
          (λ past begun was. under_way_after_line was c.in-Some.ensures.takes (rw text line));
    }

pub loop-self-preserved : goal.loop-self-preserved
loop-self-preserved g c = record {
  given = c.loop-self.invariant.given;
  writes =
      let ended = c.if-ended.ensures.0 refl in
      let nothing = c.in_default.ensures.takes in
      writes_then c.loop-self.invariant.writes refl refl (λ past begun was.
      under_way_in_next_file (under_way_after_no_line was nothing) ended.0 ended.1 (rw nothing.unchanged nothing.none_ready));
}

pub returns-else-ended-clause-writes : goal.returns-else-ended-clause-writes
returns-else-ended-clause-writes g c =
    writes_then c.loop-self.invariant.writes refl refl (λ past begun was. under_way_after_no_line was c.in_default.ensures.takes)

pub returns-clause-waits : goal.returns-clause-waits
returns-clause-waits g c = λ low ended.
    let r = c.loop-self.self in
    absurd (omega (arith, c.loop-self-test.false, c.files.ensures.count, files_many r.jobs.now r.collector r.counts))

pub loop-self-smaller-in-Some : goal.loop-self-smaller-in-Some
loop-self-smaller-in-Some g c = grind (arith, common_steps)

pub loop-self-smaller : goal.loop-self-smaller
loop-self-smaller g c = grind (arith, common_steps)
