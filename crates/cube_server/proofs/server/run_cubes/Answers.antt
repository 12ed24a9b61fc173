use Rattle.cube_words.specs.Words.{texts_of}
use Rattle.file_passes.specs.Outside.{outside}
use Rattle.cube_server.proofs.Converses.{refuses-status, accepts-status}
use Rattle.cube_server.proofs.server.run_cubes.Goals as goal

pub returns-clause-a_pass_refuses : goal.returns-clause-a_pass_refuses
returns-clause-a_pass_refuses g c =
    refuses-status (texts_of c.args.words.now) (outside g.F.Files.seen c.args.files.now c.run.new.files)
    (g.S.Sink.written c.args.out.now) (g.S.Sink.written c.run.new.out) (g.S.Sink.faults c.args.out.now) (g.S.Sink.faults c.run.new.out) c.run.result c.run.ensures

pub returns-clause-nothing_refused : goal.returns-clause-nothing_refused
returns-clause-nothing_refused g c =
    accepts-status (texts_of c.args.words.now) (outside g.F.Files.seen c.args.files.now c.run.new.files)
    (g.S.Sink.written c.args.out.now) (g.S.Sink.written c.run.new.out) (g.S.Sink.faults c.args.out.now) (g.S.Sink.faults c.run.new.out) c.run.result c.run.ensures
