use Rattle.session.proofs.halves.run_halves.Given as goal

abbrev pub ghosts-run_begun : goal.ghosts-run_begun
ghosts-run_begun g a =
    record {
      begun = record {
        hall = a.hall.now;
        hold = a.hold.now;
        pass = a.sides.writing.now;
        written = g.O.Sink.written a.sides.output.now;
        faults = g.O.Sink.faults_of a.sides.output.now;
        pass_name = a.sides.writing.ghost_name;
        output_name = a.sides.output.ghost_name;
        input_name = a.sides.input.ghost_name;
      };
    }
