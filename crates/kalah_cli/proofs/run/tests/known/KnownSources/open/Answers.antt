use Rattle.std.proofs.{Common.{◌≡◌, ◌∙◌, Some, ap, option_map, rules, sym, tests, bytes_eq}, lemmas.Iterator.{YieldsList-from_slice, Search.{find_from_yields_List}}}
use Rattle.kalah_jobs.specs.Files.NamedBytes.{NamedBytes}
use Rattle.kalah_cli.proofs.run.tests.known.KnownSources.open.Goals as goal

pub returns-in-Some : goal.returns-in-Some
returns-in-Some g c =
    let disk = c.args.self.now.disk.now in
    let found = find_from_yields_List (λ (file : NamedBytes). bytes_eq file.name c.args.name.now) _ _ c.find.result c.find.ensures.ran
    (YieldsList-from_slice disk cc) (λ x b q k. search (rules, tests)) in
    let bytes : c.in-Some.file.now.bytes ≡ c.as_slice.result.now = cc in
    rw (← found, c.in-Some.is) (ap (λ l. Some l) bytes)
