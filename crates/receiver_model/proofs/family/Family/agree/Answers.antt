use Rattle.receiver_model.proofs.Streams.{two_agree}
use Rattle.receiver_model.proofs.family.Family.agree.Goals as goal

pub returns-clause-one_stream : goal.returns-clause-one_stream
returns-clause-one_stream c = λ hops distance base start places frames near tells all.
    let f = c.self.inside in
    let h = rw (← c.self.view_is) at all in
    let two = two_agree hops distance base start places frames in
    c.all_six.ensures.1 (
      c.streams_agree-first_newest.ensures.1 (two f.first f.newest near tells h.first h.newest),
      c.streams_agree-first_left.ensures.1 (two f.first f.left near tells h.first h.left),
      c.streams_agree-first_right.ensures.1 (two f.first f.right near tells h.first h.right),
      c.streams_agree-newest_left.ensures.1 (two f.newest f.left near tells h.newest h.left),
      c.streams_agree-newest_right.ensures.1 (two f.newest f.right near tells h.newest h.right),
      c.streams_agree-left_right.ensures.1 (two f.left f.right near tells h.left h.right),
    )
