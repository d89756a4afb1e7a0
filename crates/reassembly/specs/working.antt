pub mod KeyHashes
pub mod CompleteDatagram
pub mod JoinedFragments
pub mod FragmentAnswers
