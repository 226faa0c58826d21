use Rattle.std.proofs.Common.{Ok, ◌∙◌, ap}
use Rattle.kalah_jobs.specs.{reading_of_text, reading_of}
use Rattle.kalah_jobs.proofs.{LineLemmas.{is_reading, only_reading}, LineTextLemmas.{result_of_reading}}
use Rattle.kalah_jobs.proofs.line.reading.read_line.Goals as goal

pub returns : goal.returns
unfolding reading_of
returns c =
    let line = c.args.bytes.now in
    let exact = c.read_text.ensures ∙ ap reading_of_text c.drop_cr.ensures in
    let known = result_of_reading line c.read_text.result (rw exact (is_reading line)) in
    record {
      reads = known.reads;
      text = known.text;
      stores = known.stores;
      every = λ p reads. exact ∙ only_reading line (Ok p) reads;
      fault = known.fault;
      exact = exact;
    }
