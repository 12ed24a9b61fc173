mod BareLines
mod NoteLines
