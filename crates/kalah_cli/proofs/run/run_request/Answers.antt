use Rattle.kalah_cli.proofs.run.run_request.Goals as goal

pub returns-in-Line : goal.returns-in-Line
returns-in-Line g c = rw c.in-Line.is c.run_line.ensures

pub returns-in-Files : goal.returns-in-Files
returns-in-Files g c = rw c.in-Files.is c.run_files.ensures

pub returns-in-Ask : goal.returns-in-Ask
returns-in-Ask g c = rw c.in-Ask.is c.run_ask.ensures
