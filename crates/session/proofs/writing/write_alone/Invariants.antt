use Rattle.session.proofs.writing.write_alone.Given as goal

abbrev pub ghosts-write_begun : goal.ghosts-write_begun
ghosts-write_begun g a =
    record {
      begun = record {
        hall = a.hall.now;
        hold = a.hold.now;
        pass = a.side.pass.now;
        written = g.O.Sink.written a.side.output.now;
        faults = g.O.Sink.faults_of a.side.output.now;
        pass_name = a.side.pass.ghost_name;
        output_name = a.side.output.ghost_name;
        input_name = 0;
      };
    }
